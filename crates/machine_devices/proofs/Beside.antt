-- What every other user has stays.
use Rattle.std.proofs.Common.{◌≡◌, ◌∙◌, ap, refl, sym, subst, ℕ}
use Rattle.cp_spool.specs.Queues.{KeepsOthers, QueuesValue, files_of}
use Rattle.cp_spool.proofs.Others.{keeps_on, keeps_same}
use Rattle.machine_devices.specs.Lent.{DevicesParts, KeepsOtherUsers, devices_on, devices_with}

-- Queues with equal files keep those of other users.
pub beside_same : (d : DevicesParts) (q q' : QueuesValue) → q'.users ≡ q.users → KeepsOtherUsers d q d q'
beside_same d q q' is = record { user = refl; others = keeps_same q.users q'.users d.user is }

-- Queues keep the files of other users than the one whose devices change.
pub beside_kept : (d d' : DevicesParts) (q : QueuesValue) → d'.user ≡ d.user → KeepsOtherUsers d q d' q
beside_kept d d' q is = record { user = is; others = keeps_same q.users q.users d.user refl }

-- Keeping other users' files twice keeps them.
pub beside_on : (d d' d'' : DevicesParts) (q q' q'' : QueuesValue) → KeepsOtherUsers d q d' q'
    → KeepsOtherUsers d' q' d'' q'' → KeepsOtherUsers d q d'' q''
beside_on d d' d'' q q' q'' one two = record {
  user = two.user ∙ one.user;
  others = keeps_on q.users q'.users q''.users d.user one.others
      (subst (λ (u : ℕ). KeepsOthers u q'.users q''.users) one.user two.others);
}

-- the devices of the same user
pub devices_are : (d d' : DevicesParts) (q : QueuesValue) → d'.user ≡ d.user
    → devices_with d' (files_of q.users d.user) ≡ devices_on d' q
devices_are d d' q is = ap (λ (u : ℕ). devices_with d' (files_of q.users u)) (sym is)
