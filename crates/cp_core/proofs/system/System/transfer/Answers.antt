use Rattle.std.proofs.Common.{◌≡◌, ◌∙◌, ◌++◌, ◌∷◌, [], ap, set, subst, sym, List, Some, ℕ}
use Rattle.unit_record.specs.declared.reader.Sender.{Sender}
use Rattle.unit_record.specs.Reader.{DeckValue}
use Rattle.machine_devices.specs.Devices.{DevicesValue}
use Rattle.machine_devices.specs.Equipped.{Equipped}
use Rattle.machine_devices.specs.Notes.{next_file}
use Rattle.machine_devices.specs.Spooling.{deck_queued, with_deck_queued}
use Rattle.machine_devices.specs.declared.event.Event.TheVariants.{Transfer}
use Rattle.machine_devices.specs.declared.files.FileKind.TheVariants as kinds
use Rattle.machine_devices.specs.declared.reply.Delivery.TheVariants as deliveries
use Rattle.machine_devices.specs.declared.reply.Ended.TheVariants.{Done}
use Rattle.machine_devices.specs.declared.reply.Reply.{Reply}
use Rattle.machine_devices.specs.declared.reply.UserResponse.TheVariants.{Nothing}
use Rattle.cp_core.specs.Histories.{IsReplied}
use Rattle.cp_core.specs.System.{SystemView, user_at}
use Rattle.cp_core.proofs.Steps.{deck_transferred, none_moved}
use Rattle.cp_core.proofs.system.System.transfer.Goals as goal

pub returns-in_default-clause-step : goal.returns-in_default-clause-step
returns-in_default-clause-step c =
    subst (λ (reply : Reply).
    IsReplied c.args.self.now
    (record { event = Transfer c.args.user c.args.id c.args.to; reply = reply; seen = c.args.self.now }))
    (sym c.silent.ensures)
    (none_moved c.args.self.now c.args.user c.args.id c.args.to c.next_file-number.ensures.between
    (ap (λ (d : DevicesValue). deck_queued d c.args.id) (sym c.devices_of.ensures) ∙ sym c.in_default.ensures))

pub returns-clause-step : goal.returns-clause-step
returns-clause-step c =
    let old = c.args.self.now in
    let middle = c.deliver.new.self in
    let new = c.with_user.new.self in
    let user = c.args.user in
    let id = c.args.id in
    let to = c.args.to in
    let found = c.in-Some.deck in
    let number = c.next_file-number.result in
    let next = next_file old.files in
    let cards = c.in_ok-cards.cards.items in
    let sender = c.sender-sender.result in
    let noted = c.in_ok-number_file.ensures.ok in
    let there : user_at c.number_file.new.self to ≡ user_at old to =
    ap (λ (s : SystemView). user_at s to) noted in
    let having = (λ (d : DeckValue) (e : Equipped). record e { devices = with_deck_queued e.devices d }) in
    let as_sent = (λ (n : ℕ) (by : Sender) (cs : List (List ℕ)). having
    (record { label = n; sender = by; cards = cs }) (user_at old to)) in
    let got : user_at middle to ≡ having (record found { label = next }) (user_at old to) =
    c.in_ok-deliver.ensures.ok
    ∙ ap (having (record { label = number; sender = sender; cards = cards })) there
    ∙ ap (λ (n : ℕ). as_sent n sender cards) c.next_file-number.ensures.value
    ∙ ap (λ (by : Sender). as_sent next by cards) c.sender-sender.ensures
    ∙ ap (λ (cs : List (List ℕ)). as_sent next found.sender cs) c.in_ok-cards.ensures in
    let came : middle ≡ record old {
      users = set old.users to (user_at middle to);
      files = old.files ++ record { user = to; kind = kinds.Deck } ∷ [];
    } =
    c.in_ok-deliver.ensures.rest
    ∙ ap (λ (s : SystemView). record s { users = set s.users to (user_at middle to) }) noted
    ∙ ap (λ (n : ℕ). record old {
      users = set old.users to (user_at middle to);
      files = old.files ++ record { user = n; kind = kinds.Deck } ∷ [];
    }) c.number_of-receiver.ensures in
    let replied = (λ (n receiver : ℕ). IsReplied old (record {
      event = Transfer user id to;
      reply = record {
        ended = Done;
        said = Nothing;
        lines = 0;
        delivered = Some (record { to = receiver; what = deliveries.Deck n });
      };
      seen = new;
    })) in
    let is : deck_queued (user_at old user).devices id ≡ Some found =
    ap (λ (d : DevicesValue). deck_queued d id) (sym c.devices_of.ensures) ∙ sym c.in-Some.ensures in
    subst (λ (n : ℕ). replied n c.number_of-receiver.result) (sym c.next_file-number.ensures.value)
    (subst (replied next) (sym c.number_of-receiver.ensures)
    (deck_transferred old middle new user id to found c.with_user.result c.next_file-number.ensures.between is got came
    c.with_user.ensures.does c.with_user.ensures.rest))
