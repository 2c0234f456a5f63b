use Rattle.std.proofs.Common.{ℕ, List, None, inl, inr, refl, subst, ◌∙◌}
use Rattle.std.proofs.lemmas.Result.{IfErr-weaker, IfOk-weaker, err_from_is_err_and}
use Rattle.program_host.proofs.Deeds.{if_err}
use Rattle.sessions.specs.Follow.{Became}
use Rattle.sessions.specs.declared.follow.Part.TheVariants as parts
use Rattle.vm370.specs.Goes.{system_goes}
use Rattle.frame_map.specs.Maps.{ComesToNothing, IsRefusedPart, IsUnfollowed}
use Rattle.frame_map.proofs.Unmapped.{unread}
use Rattle.frame_map.proofs.program.follow.Goals as goal

pub returns-in_err-bytes-clause-err : goal.returns-in_err-bytes-clause-err
returns-in_err-bytes-clause-err g c =
    let deeds = g.H.ProgramHost.deeds in
    let path = c.args.script.now in
    let failure = c.in_err-bytes.field-0.0 in
    let refused = IsUnfollowed g.H.ProgramHost.gives g.H.File.HostReader.remaining path c.args.follower in
    if_err (ComesToNothing g.H.ProgramHost.gives g.H.File.HostFile.failures path refused (deeds c.args.host.now)
    (deeds c.read_file.new.host)) c.from_residual.result failure c.from_residual.ensures.1
    (unread g.H.ProgramHost.gives g.H.File.HostFile.failures path refused (deeds c.args.host.now)
    (deeds c.read_file.new.host) failure c.in_err-bytes.ensures.err)

pub returns-in_err-text-clause-err : goal.returns-in_err-text-clause-err
returns-in_err-text-clause-err g c =
    let p = err_from_is_err_and c.from_residual-in_err-text.result c.from_residual-in_err-text.ensures.1 in
    rw (p.1, p.2) (inr (c.in_ok-bytes.ensures.deeds, inl refl))

pub returns-clause-ok : goal.returns-clause-ok
returns-clause-ok g c =
    let same = c.deref.ensures.value ∙ c.in_ok-text.ensures in
    IfOk-weaker c.do_part.result _ _ (λ machines h. record {
      text = c.in_ok-bytes.bytes.items;
      last = h.0;
      read = c.in_ok-bytes.ensures.ok;
      done = subst (λ (text : List ℕ). Became system_goes text c.args.follower (parts.Done h.0) None None) same h.1;
      left = h.2;
    }) c.do_part.ensures.ok

pub returns-clause-err : goal.returns-clause-err
returns-clause-err g c =
    let same = c.deref.ensures.value ∙ c.in_ok-text.ensures in
    IfErr-weaker c.do_part.result _ _ (λ failure h. inr (
      c.in_ok-bytes.ensures.deeds,
      elim h [
        | inl memory ↦ inl memory
        | inr refused ↦ inr (inr (record {
          text = c.in_ok-bytes.bytes.items;
          read = c.in_ok-bytes.ensures.ok;
          refused = subst (λ (text : List ℕ). IsRefusedPart text c.args.follower failure) same refused;
        }))
      ],
    )) c.do_part.ensures.err
