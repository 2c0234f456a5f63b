-- How a serve ends, said of another answer.
use Rattle.std.proofs.Common.{◌≡◌, ap, Ok, Err, Option}
use Rattle.std.specs.Prelude.{Result}
use Rattle.s370_store.specs.declared.Storage.{Ghosts as Storage}
use Rattle.s370_channel.specs.declared.running.ChannelError.{ChannelError}
use Rattle.s370_channel.specs.declared.running.ChannelError.TheVariants.{Memory}
use Rattle.s370_channel.specs.declared.words.Caw.{Caw}
use Rattle.machine_channels.specs.declared.channels.Channels.{Ghosts as Channels}
use Rattle.machine_channels.specs.declared.channels.Disks.{Ghosts as Disks}
use Rattle.machine_devices.specs.declared.places.AttachedDevice.{AttachedDevice}
use Rattle.machine_devices.specs.Borrowed.{Borrowed, ServeEnds}

module _ {C S : Type 0} (channels : Channels C S) (disks : Disks C) (storage : Storage S)
    (kind : Option AttachedDevice) (start : Option Caw) (old new : Borrowed C S) {T U : Type 0} where
  pub ends_ok : (t : T) (u : U)
      → (let r : Result T ChannelError = Ok t in ServeEnds channels disks storage kind start old new r)
      → (let r : Result U ChannelError = Ok u in ServeEnds channels disks storage kind start old new r)
  ends_ok t u h = record {
    whole = λ _. tt;
    roomy = λ _ refused. absurd cc;
    stopped = λ _. tt;
    paged_in = h.paged_in;
    ready = h.ready;
    kept = h.kept;
    kept_if_refused = tt;
    others = h.others;
    other_users = h.other_users;
  }

  pub ends_err : (error : ChannelError)
      → (let r : Result T ChannelError = Err error in ServeEnds channels disks storage kind start old new r)
      → (let r : Result U ChannelError = Err error in ServeEnds channels disks storage kind start old new r)
  ends_err error h = record {
    whole = h.whole;
    roomy = λ whole refused. (let is : error ≡ Memory = cc in h.roomy whole (ap Err is));
    stopped = h.stopped;
    paged_in = h.paged_in;
    ready = h.ready;
    kept = tt;
    kept_if_refused = h.kept_if_refused;
    others = h.others;
    other_users = h.other_users;
  }
