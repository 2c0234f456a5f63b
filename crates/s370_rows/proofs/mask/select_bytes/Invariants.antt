use Rattle.std.proofs.Common.{◌≡◌, length, take}
use Rattle.s370_rows.specs.Mask.{selected_before, selected_count, selected_front}
use Rattle.s370_rows.proofs.mask.select_bytes.Given as goal

abbrev pub invariant-loop-place : goal.invariant-loop-place
invariant-loop-place l = record {
  counted : l.next ≡ selected_before l.mask l.place;
  room : length l.into ≡ selected_count l.mask;
  written : take l.next l.into ≡ selected_front l.word l.mask l.place;
}
