-- Lines that were printed before do not matter to a machine.
use Rattle.std.specs.Prelude.{ℕ, ◌≡◌, refl, List, [], ◌∷◌, ◌++◌, Bool, true, false, if◌then◌else◌, Option, Some, None}
use Rattle.std.proofs.Common.{ap, ◌∙◌, append_assoc}
use Rattle.cp_console.specs.declared.responses.Response.{Response}
use Rattle.cp_console.specs.Responses.{text_of, is_panel}
use Rattle.s370_intr.specs.declared.next.Reason.{Reason}
use Rattle.s370_intr.specs.declared.next.Reason.TheVariants as reasons
use Rattle.machine_panel.specs.declared.line.PanelLine.{PanelLine}
use Rattle.machine_panel.specs.declared.line.PanelLine.TheVariants.{Nothing, Says, Stop, Begin, External, Display}
use Rattle.machine_panel.specs.declared.line.PanelLine.TheVariants.{Store}
use Rattle.machine_panel.specs.declared.machine.Mode.{Mode}
use Rattle.machine_panel.specs.declared.machine.Mode.TheVariants.{Off, Stopped, Running}
use Rattle.s370_intr.specs.Run.{run as run_core}
use Rattle.machine_panel.specs.Machine.{Machine, printed}
use Rattle.machine_panel.specs.DisplayStore.{displayed, stored, changed}
use Rattle.machine_panel.specs.Panel.{Answer, answered, line}
use Rattle.machine_panel.specs.Run.{MachineRun, TellsFor, TellsRun, halted, notice_of, run, run_in}
use Rattle.machine_panel.specs.Tick.{ticked, ticked_in}
use Rattle.machine_panel.specs.Forgotten.{DoNotMatter, PrintedLinesDoNotMatter, answer_having_printed, having_printed}
use Rattle.machine_panel.specs.Forgotten.{run_having_printed}

module _ (gone : List (List ℕ)) where
  prints : (m : Machine) (text : List ℕ) → printed (having_printed gone m) text ≡ having_printed gone (printed m text)
  prints m text = ap (λ (o : List (List ℕ)). record m { output = o }) (append_assoc gone m.output (text ∷ []))

  halts : (m : Machine) (notice : Option Response)
      → halted notice (having_printed gone m) ≡ having_printed gone (halted notice m)
  halts m None = refl
  halts m (Some notice) = prints (record m { mode = Stopped }) (text_of notice)

  runs_in : (n : ℕ) (m : Machine) (mode : Mode)
      → run_in mode n (having_printed gone m) ≡ run_having_printed gone (run_in mode n m)
  runs_in n m Running =
      let r = run_core n m.core in
      let notice = notice_of r.reason in
      let reported = λ (x : Machine). let a : MachineRun = record {
        machine = x;
        units = r.units;
        reason = r.reason;
        notice
            = notice;
      } in a in
      ap reported (halts (record m { core = r.core }) notice)
  runs_in n m Stopped = refl
  runs_in n m Off = refl

  ticks_in : (m : Machine) (mode : Mode) → ticked_in mode (having_printed gone m) ≡ having_printed gone
      (ticked_in mode m)
  ticks_in m Running = refl
  ticks_in m Stopped = refl
  ticks_in m Off = refl

  replies : (m : Machine) (text : List ℕ) (b : Bool)
      → (if b then printed (having_printed gone m) text else having_printed gone m)
      ≡ having_printed gone (if b then printed m text else m)
  replies m text true = prints m text
  replies m text false = refl

  answers_so : (m : Machine) (reply : Response)
      → answered reply (having_printed gone m) ≡ answer_having_printed gone (answered reply m)
  answers_so m reply =
      let reported = λ (x : Machine). let a : Answer = record { machine = x; reply = Some reply } in a in
      ap reported (replies m (text_of reply) (is_panel reply))

  answers : (m : Machine) (asked : PanelLine)
      → line asked (having_printed gone m) ≡ answer_having_printed gone (line asked m)
  answers m Nothing = refl
  answers m (Says response) = refl
  answers m Stop = refl
  answers m (Begin address) = refl
  answers m External = refl
  answers m (Display place) = answers_so m (displayed place m.core.processor)
  answers m (Store change) =
      let s = m.core.processor in
      answers_so (record m { core = record m.core { processor = changed change s } }) (stored change s)

  runs : (n : ℕ) (m : Machine) → run n (having_printed gone m) ≡ run_having_printed gone (run n m)
  runs n m = runs_in n m m.mode

  -- ---- what a run says over a storage that brings its pages

  tells_for : (reason : Reason) (n : ℕ) (old : Machine) (reported : MachineRun) (is_short : ℕ → Type 0)
      → TellsFor reason n old reported is_short
      → TellsFor reason n (having_printed gone old) (run_having_printed gone reported) is_short
  tells_for reasons.FramesOut n old reported is_short h =
      record {
        done = runs reported.units old ∙ ap (run_having_printed gone) h.done;
        fewer = h.fewer;
        lacking = h.lacking;
      }
  tells_for reasons.Count n old reported is_short h = runs n old ∙ ap (run_having_printed gone) h
  tells_for reasons.Wait n old reported is_short h = runs n old ∙ ap (run_having_printed gone) h
  tells_for reasons.DisabledWait n old reported is_short h = runs n old ∙ ap (run_having_printed gone) h
  tells_for reasons.EcMode n old reported is_short h = runs n old ∙ ap (run_having_printed gone) h
  tells_for reasons.Stopped n old reported is_short h = runs n old ∙ ap (run_having_printed gone) h

  pub tells_run : (n : ℕ) (old : Machine) (reported : MachineRun) (is_short : ℕ → Type 0)
      → TellsRun n old reported is_short
      → TellsRun n (having_printed gone old) (run_having_printed gone reported) is_short
  tells_run n old reported is_short h = tells_for reported.reason n old reported is_short h

-- Lines that a console has printed before do not matter to what the machine does.
pub do_not_matter : PrintedLinesDoNotMatter
do_not_matter gone m = record {
  runs = λ n. runs gone n m;
  ticks = ticks_in gone m m.mode;
  answers = answers gone m;
  prints = prints gone m;
  resets = refl;
  clears = refl;
  ends = refl;
}
