-- How `watch` ends.
use Rattle.std.proofs.Common.{◌≡◌, ℕ, ◌⊎◌, inl, inr, List, IfSome, refl, subst}
use Rattle.std.specs.declared.option.Option.{Option}
use Rattle.command_line.specs.Outcome.{Calm, Streams}
use Rattle.command_line.specs.declared.status.Status.{Status}
use Rattle.command_line.specs.declared.status.Status.TheVariants as status
use Rattle.tool_script.specs.Request.{PlainRequest}
use Rattle.tool_script.specs.Script.{WatchScript, HaveOneReading, joint_room}
use Rattle.tool_script.specs.declared.request.Ending.{Ending}
use Rattle.tool_script.specs.declared.request.Ending.TheVariants.{Done, TooLong, BadScript}
use Rattle.tool_watch.specs.Asked.{IsScript, IsUnread}
use Rattle.tool_watch.specs.Watching.{EndsWell, Watches}

-- the script was not read to a good end, and nothing was written
pub unread_watches : (width workers : ℕ) (before now : Streams) (s : Status) → IsUnread before.left before.read_faults now.read_faults s
    → now.written ≡ before.written → Watches width workers before now s
unread_watches width workers before now status.Done p same = absurd p
unread_watches width workers before now status.Refused p same = p
unread_watches width workers before now status.Usage p same = p
unread_watches width workers before now status.SourceFailed p same = (p, same)
unread_watches width workers before now status.SinkFailed p same = absurd p
unread_watches width workers before now status.OutOfMemory p same = same
unread_watches width workers before now status.TooLong p same = (p, same)
unread_watches width workers before now status.BadScript p same = (p, same)

other_ending : HaveOneReading → (left : Option (List ℕ)) (e : Ending) → IsScript left e → EndsWell left → e ≡ Done
other_ending law left e is (bytes, (told, (requests, script))) =
    let found : (others : List PlainRequest) × WatchScript bytes others e =
    subst (λ (l : Option (List ℕ)). IfSome l (λ bytes. (others : List PlainRequest) × WatchScript bytes others e)) told is in
    (law joint_room bytes found.0 requests e Done found.1 script).1

-- over a script that ends well, and where no fault came
pub ends_well : HaveOneReading → (width workers : ℕ) (before now : Streams) (s : Status) → Watches width workers before now s
    → Calm before.read_faults now.read_faults → Calm before.write_faults now.write_faults
    → EndsWell before.left → (s ≡ status.Done) ⊎ (s ≡ status.OutOfMemory)
ends_well law width workers before now status.Done p reads writes well = inl refl
ends_well law width workers before now status.Refused p reads writes well = absurd p
ends_well law width workers before now status.Usage p reads writes well = absurd p
ends_well law width workers before now status.SourceFailed p reads writes well = absurd (reads p.0)
ends_well law width workers before now status.SinkFailed p reads writes well = absurd (writes p.0)
ends_well law width workers before now status.OutOfMemory p reads writes well = inr refl
ends_well law width workers before now status.TooLong p reads writes well = absurd (cc (other_ending law before.left TooLong p.0 well))
ends_well law width workers before now status.BadScript p reads writes well = absurd (cc (other_ending law before.left BadScript p.0 well))
