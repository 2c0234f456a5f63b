use Rattle.std.proofs.Common.{◌≡◌, ◌∙◌, ℕ, subst, sym, length, Result, true, arith}
use Rattle.std.specs.Prelude.{IfErr, IfOk, OnOk}
use Rattle.s370_channel.specs.declared.running.ChannelError.{ChannelError}
use Rattle.s370_walk.specs.declared.parts.Ending.{Ending}
use Rattle.machine_channels.specs.Channels.{WalksLoading, WhereOut}
use Rattle.cp_dat.specs.Lent.{is_lent_page, lent_bytes, lent_memory}
use Rattle.cp_trial.specs.DryRun.{LoadTouches}
use Rattle.cp_resident.proofs.Ran.{tried_came, tried_there, tried_walk, tried_whole}
use Rattle.cp_resident.proofs.Refused.{no_room}
use Rattle.cp_resident.proofs.Roomy.{refused_by}
use Rattle.cp_resident.proofs.resident.GuestChannelsChannelsDat.load.Goals as goal

pub returns-clause-walk : goal.returns-clause-walk
returns-clause-walk g c =
    let W : Ending → Type 0 =
    λ ending. WalksLoading g.D.Device.machine (lent_memory c.args.storage.now) c.args.device.now ending
    (lent_memory c.load_open.new.storage) c.load_open.new.device in
    subst (λ (r : Result Ending ChannelError). IfOk r W) (sym c.reported.ensures)
    (tried_walk c.load_open.result W c.load_open.ensures.walk)

pub returns-clause-whole : goal.returns-clause-whole
returns-clause-whole g c = λ is.
    (
    let old = c.args.storage.now in
    let new = c.load_open.new.storage in
    let Needs : ℕ → Type 0 = LoadTouches g.D.Device.machine (lent_memory old) c.args.device.now in
    let P : Type 0 = (lent_memory new ≡ lent_memory old) × (c.load_open.new.device ≡ c.args.device.now) in
    subst (λ (r : Result Ending ChannelError). IfErr r (WhereOut (length (lent_bytes old)) Needs (no_room new Needs) P))
    (sym c.reported.ensures)
    (tried_whole c.load_open.result old new Needs Needs P (λ page it. it)
    c.load_open.ensures.paged_in.paged_in.kept.same_size c.load_open.ensures.lacking
    c.load_open.ensures.unchanged_without_frames))

pub returns-clause-there : goal.returns-clause-there
returns-clause-there g c = λ is.
    (let P : Type 0 = is_lent_page c.load_open.new.storage 0 ≡ true in
    subst (λ (r : Result Ending ChannelError). OnOk r P) (sym c.reported.ensures)
    (tried_there c.load_open.result P c.load_open.ensures.there))

pub returns-clause-paged_in : goal.returns-clause-paged_in
returns-clause-paged_in g c =
    let old = c.args.storage.now in
    let new = c.load_open.new.storage in
    let Needs : ℕ → Type 0 = LoadTouches g.D.Device.machine (lent_memory old) c.args.device.now in
    tried_came 4 4 old new Needs Needs (λ page it. it) (omega arith) c.load_open.ensures.paged_in

pub returns-clause-roomy : goal.returns-clause-roomy
returns-clause-roomy g c =
    λ whole refused. c.load_open.ensures.roomy (refused_by c.load_open.result (sym c.reported.ensures ∙ refused))
