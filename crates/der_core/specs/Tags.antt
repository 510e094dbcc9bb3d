-- The tags of the types that are read and written here, by name, and that they are tags of the profile.
use Rattle.std.proofs.Common.{lit<}
use Rattle.std.specs.Prelude.{ℕ}
use Rattle.der_core.specs.Der.{IsTag}

-- The types by X.690: 8.3, 8.6, 8.7, 8.8, 8.19, 8.23, and 8.9 with 8.10.
abbrev pub integer_tag : ℕ
integer_tag = 2

abbrev pub bit_string_tag : ℕ
bit_string_tag = 3

abbrev pub octet_string_tag : ℕ
octet_string_tag = 4

abbrev pub null_tag : ℕ
null_tag = 5

abbrev pub oid_tag : ℕ
oid_tag = 6

abbrev pub utf8_tag : ℕ
utf8_tag = 12

abbrev pub sequence_tag : ℕ
sequence_tag = 48

pub tag_2 : IsTag 2
tag_2 = record { present = lit< tt; byte = lit< tt; single = lit< tt }

pub tag_3 : IsTag 3
tag_3 = record { present = lit< tt; byte = lit< tt; single = lit< tt }

pub tag_4 : IsTag 4
tag_4 = record { present = lit< tt; byte = lit< tt; single = lit< tt }

pub tag_6 : IsTag 6
tag_6 = record { present = lit< tt; byte = lit< tt; single = lit< tt }

pub tag_12 : IsTag 12
tag_12 = record { present = lit< tt; byte = lit< tt; single = lit< tt }

pub tag_48 : IsTag 48
tag_48 = record { present = lit< tt; byte = lit< tt; single = lit< tt }

pub tag_128 : IsTag 128
tag_128 = record { present = lit< tt; byte = lit< tt; single = lit< tt }

pub tag_129 : IsTag 129
tag_129 = record { present = lit< tt; byte = lit< tt; single = lit< tt }

pub tag_160 : IsTag 160
tag_160 = record { present = lit< tt; byte = lit< tt; single = lit< tt }
