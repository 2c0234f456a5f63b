use Rattle.std.proofs.Common.{◌≡◌, ◌++◌, ◌∙◌, ap, refl, ℕ, List}
use Rattle.saved_bytes.specs.Codes.{each, flag}
use Rattle.ckd_saved.specs.Saved.{volume_bytes}
use Rattle.cp_frames.specs.Saved.{pool_bytes}
use Rattle.machine_devices.specs.Saved.{note_bytes}
use Rattle.machine_devices.specs.declared.files.FileNote.{FileNote}
use Rattle.cp_core.specs.Saved.{saved_user, seat_bytes, system_bytes, user_bytes}
use Rattle.cp_core.specs.UserMachines.{SeatParts}
use Rattle.cp_core.proofs.SystemCodes.{as_whole, each_mapped, parts_in, saved_is}
use Rattle.cp_core.proofs.Systems.{on_ok}
use Rattle.cp_core.proofs.system.System.save.Goals as goal

pub returns : goal.returns
returns c =
    let s = c.self.inside in
    let out = c.args.out.now.items in
    let parts = parts_in s.queues s.users.items s.volumes s.frames s.files.items s.is_spent in
    let v = each volume_bytes s.volumes in
    let u = each user_bytes parts.users in
    let p = pool_bytes s.frames in
    let n = each note_bytes s.files.items in
    let users : each (seat_bytes s.queues) c.deref.result.now ≡ u =
    ap (λ (us : List SeatParts). each (seat_bytes s.queues) us) c.deref.ensures.value ∙ each_mapped user_bytes
    (saved_user s.queues) s.users.items in
    let notes : each note_bytes c.deref-2.result.now ≡ n =
    ap (λ (ns : List FileNote). each note_bytes ns) c.deref-2.ensures.value in
    let one : c.put_volumes.new.out.items ≡ out ++ v = c.in_ok-put_volumes.ensures in
    let two : c.put_users.new.out.items ≡ (out ++ v)
    ++ u = c.in_ok-put_users.ensures ∙ ap (λ (l : List ℕ). l ++ each (seat_bytes s.queues) c.deref.result.now) one ∙
    ap (λ (l : List ℕ). (out ++ v) ++ l) users in
    let three : c.save.new.out.items ≡ ((out ++ v) ++ u)
    ++ p = c.in_ok-save.ensures ∙ ap (λ (l : List ℕ). l ++ p) two in
    let four : c.put_notes.new.out.items ≡ (((out ++ v) ++ u) ++ p)
    ++ n = c.in_ok-put_notes.ensures ∙ ap (λ (l : List ℕ). l ++ each note_bytes c.deref-2.result.now) three ∙ ap
    (λ (l : List ℕ). (((out ++ v) ++ u) ++ p) ++ l) notes in
    on_ok c.put_flag.result _ _
    (λ last. (
      system_bytes parts,
      saved_is s.queues s.users.items s.volumes s.frames s.directory s.files.items s.is_spent c.args.self.now
          (system_bytes parts) c.self.view_is refl,
      last ∙ ap (λ (l : List ℕ). l ++ flag s.is_spent) four ∙ as_whole out v u p n (flag s.is_spent),
    ))
    c.put_flag.ensures
