use Rattle.std.proofs.Common.{◌≡◌, ◌∙◌, ◌++◌, ℕ, Err, List, Ok, OnErr, Result, ap, subst}
use Rattle.s370_channel.specs.Reading.{as_reached}
use Rattle.machine_devices.specs.declared.files.FileNote.{FileNote}
use Rattle.machine_devices.specs.Comes.{LineMay}
use Rattle.machine_devices.specs.Coming.{comes_by_line, coming_of}
use Rattle.machine_devices.specs.Life.{Lives}
use Rattle.machine_devices.specs.Lines.{IsLine, files_closed}
use Rattle.machine_devices.specs.Notes.{next_file, noted, stands_in}
use Rattle.machine_devices.specs.Replies.{delivered_by, said_to_line}
use Rattle.machine_devices.specs.UserDirectory.{UserDirectory}
use Rattle.machine_devices.proofs.Answered.{follow_may, line_stands}
use Rattle.bare_installation.proofs.bare.Bare.line.Goals as goal

on_err : {T E : Type 0} (X : Type 0) (result : Result T E) → X → OnErr result X
on_err X (Ok reported) x = tt
on_err X (Err error) x = x

pub returns-in_err-delivered-clause-memory : goal.returns-in_err-delivered-clause-memory
returns-in_err-delivered-clause-memory c =
    on_err _ c.from_residual-in_err-delivered.result
    (subst (λ (w : UserDirectory). LineMay w c.args.typed.now c.args.self.now.equipped) c.world-world.ensures
    (follow_may _ c.args.typed.now c.args.self.now.equipped c.in_ok-reported.reported c.answer.new.self.equipped
    c.in_ok-reported.ensures.line c.in_err-delivered.ensures.memory))

pub returns-clause-typed : goal.returns-clause-typed
returns-clause-typed c =
    let old = c.args.self.now in
    let middle = c.answer.new.self in
    let reported = c.in_ok-reported.reported in
    let delivered = c.in_ok-delivered.delivered in
    let closed = files_closed reported in
    let f = c.in_ok-delivered.ensures in
    let files : middle.files ≡ old.files = c.in_ok-reported.ensures.files in
    let stands = line_stands _ c.args.typed.now old.equipped reported middle.equipped c.in_ok-reported.ensures.line in
    record {
      tells = record {
        reported = reported;
        answered = middle.equipped;
        line = subst (λ (w : UserDirectory). IsLine w c.args.typed.now old.equipped reported middle.equipped)
            c.world-world.ensures c.in_ok-reported.ensures.line;
        said = c.said_to_line.ensures ∙ ap (λ (n : ℕ). said_to_line n reported) c.next_file-number.ensures.value;
        delivered = f.delivered ∙ ap
            (λ (xs : List FileNote).
            delivered_by 1 (next_file xs) (stands_in closed.punched middle.equipped.devices.punched) reported
            middle.equipped) files
            ∙ ap (λ (n : ℕ). delivered_by 1 (next_file old.files) n reported middle.equipped) stands.punched;
      };
      come = subst (λ (n : ℕ).
          Lives as_reached (coming_of (comes_by_line 0 n middle.equipped) delivered) middle.equipped
          c.follow.new.self.equipped) stands.punched f.come;
      files = f.files ∙ ap (λ (xs : List FileNote). xs ++ noted 0 closed) files ∙ ap
          (λ (xs : List FileNote). old.files ++ xs) (stands.notes 0);
    }
