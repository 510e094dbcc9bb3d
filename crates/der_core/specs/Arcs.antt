-- The arcs that an iterator has left.
use Rattle.std.specs.Prelude.{ℕ, List, ◌++◌, option_to_list}
use Rattle.der_core.specs.Oid.{subidentifiers}
use Rattle.der_core.specs.declared.oid.arcs.Arcs.{Arcs}

abbrev pub arcs_left : Arcs → List ℕ
arcs_left a = option_to_list a.first ++ (option_to_list a.second ++ subidentifiers a.rest.now)
