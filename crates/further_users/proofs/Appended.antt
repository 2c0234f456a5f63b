-- Users of saved systems, one list after another.
use Rattle.std.specs.Prelude.{◌≡◌, ℕ, zero, suc, refl, List, [], ◌∷◌, ◌++◌, length, map, drop}
use Rattle.std.proofs.Common.{ap, sym, ◌∙◌, arith, subst}
use Rattle.std.proofs.lemmas.List.{drop-map, length-map, map-append}
use Rattle.ckd_volume.specs.Volume.{VolumeFormat}
use Rattle.cp_frames.specs.Layout.{FrameSupply}
use Rattle.machine_devices.specs.Devices.{DevicesValue}
use Rattle.machine_devices.specs.Equipped.{Equipped}
use Rattle.machine_panel.specs.Machine.{Machine}
use Rattle.cp_core.specs.Saved.{IsOneBySaved, IsSaved, SavedSystem, system_bytes, user_of, view_of}
use Rattle.cp_core.specs.System.{SystemView, users_of}
use Rattle.cp_core.specs.UserMachines.{UserParts, user_with}
use Rattle.further_users.specs.Longer.{HasFurtherUsers, HasStorages, LongerStatesKeepUsers}
use Rattle.further_users.specs.Longer.{devices_in, longer, machine_in}

-- the users of two lists are those of the one and then those of the other
users_appended : (us more : List UserParts) (volumes : List VolumeFormat) (ss further : List (List ℕ))
    → length us ≡ length ss
    → users_of (us ++ more) volumes (ss ++ further) ≡ users_of us volumes ss ++ users_of more volumes further
users_appended [] more volumes [] further same = refl
users_appended [] more volumes (s ∷ ss) further same = absurd (omega (arith, same))
users_appended (u ∷ us) more volumes [] further same = absurd (omega (arith, same))
users_appended (u ∷ us) more volumes (s ∷ ss) further same =
    ap (λ (es : List Equipped). user_with u volumes s ∷ es)
    (users_appended us more volumes ss further (omega (arith, same)))

-- there are as many as have a storage
length_users : (us : List UserParts) (volumes : List VolumeFormat) (ss : List (List ℕ)) → length us ≡ length ss
    → length (users_of us volumes ss) ≡ length us
length_users [] volumes ss same = refl
length_users (u ∷ us) volumes [] same = absurd (omega (arith, same))
length_users (u ∷ us) volumes (s ∷ ss) same =
    ap (λ (n : ℕ). suc n) (length_users us volumes ss (omega (arith, same)))

-- nobody is there without a storage
no_users : (us : List UserParts) (volumes : List VolumeFormat) → users_of us volumes [] ≡ []
no_users [] volumes = refl
no_users (u ∷ us) volumes = refl

-- the users after the first ones are those of what follows
users_dropped : (n : ℕ) (us : List UserParts) (volumes : List VolumeFormat) (ss : List (List ℕ))
    → drop n (users_of us volumes ss) ≡ users_of (drop n us) volumes (drop n ss)
users_dropped zero us volumes ss = refl
users_dropped (suc n) [] volumes [] = refl
users_dropped (suc n) [] volumes (s ∷ ss) = refl
users_dropped (suc n) (u ∷ us) volumes [] = sym (no_users (drop n us) volumes)
users_dropped (suc n) (u ∷ us) volumes (s ∷ ss) = users_dropped n us volumes ss

-- machines and devices do not hang on the volumes
machines_same : (us : List UserParts) (one other : List VolumeFormat) (ss : List (List ℕ))
    → map machine_in (users_of us one ss) ≡ map machine_in (users_of us other ss)
machines_same [] one other ss = refl
machines_same (u ∷ us) one other [] = refl
machines_same (u ∷ us) one other (s ∷ ss) =
    ap (λ (ms : List Machine). machine_in (user_with u one s) ∷ ms) (machines_same us one other ss)

devices_same : (us : List UserParts) (one other : List VolumeFormat) (ss : List (List ℕ))
    → map devices_in (users_of us one ss) ≡ map devices_in (users_of us other ss)
devices_same [] one other ss = refl
devices_same (u ∷ us) one other [] = refl
devices_same (u ∷ us) one other (s ∷ ss) =
    ap (λ (ds : List DevicesValue). devices_in (user_with u one s) ∷ ds) (devices_same us one other ss)

-- the lists of all that a state has
module _ (old booted : SavedSystem) (stored : HasStorages old) (n : ℕ) where
  further_of : List Equipped
  further_of = users_of (map user_of (drop n booted.users)) old.volumes (drop n booted.pool.storages)

  all_users : users_of (map user_of (old.users ++ drop n booted.users)) old.volumes
      (old.pool.storages ++ drop n booted.pool.storages)
      ≡ users_of (map user_of old.users) old.volumes old.pool.storages ++ further_of
  unfolding further_of
  all_users =
      ap (λ (us : List UserParts). users_of us old.volumes (old.pool.storages ++ drop n booted.pool.storages))
      (map-append user_of old.users (drop n booted.users))
      ∙ users_appended (map user_of old.users) (map user_of (drop n booted.users)) old.volumes old.pool.storages
      (drop n booted.pool.storages) (length-map old.users user_of ∙ stored)

  booted_users : users_of (map user_of (drop n booted.users)) booted.volumes (drop n booted.pool.storages)
      ≡ drop n (users_of (map user_of booted.users) booted.volumes booted.pool.storages)
  booted_users =
      ap (λ (us : List UserParts). users_of us booted.volumes (drop n booted.pool.storages))
      (sym (drop-map user_of n booted.users))
      ∙ sym (users_dropped n (map user_of booted.users) booted.volumes booted.pool.storages)

  further_machines : map machine_in further_of
      ≡ map machine_in (drop n (users_of (map user_of booted.users) booted.volumes booted.pool.storages))
  unfolding further_of
  further_machines =
      machines_same (map user_of (drop n booted.users)) old.volumes booted.volumes (drop n booted.pool.storages)
      ∙ ap (λ (es : List Equipped). map machine_in es) booted_users

  further_devices : map devices_in further_of
      ≡ map devices_in (drop n (users_of (map user_of booted.users) booted.volumes booted.pool.storages))
  unfolding further_of
  further_devices =
      devices_same (map user_of (drop n booted.users)) old.volumes booted.volumes (drop n booted.pool.storages)
      ∙ ap (λ (es : List Equipped). map devices_in es) booted_users

-- bytes are those of one system, and so of the one whose parts these are
pub longer_states_keep_users : IsOneBySaved → LongerStatesKeepUsers
longer_states_keep_users unique one booted made supply before after is boot stored stored' saved =
    let n = length one.users in
    let parts = longer n is.parts boot.parts supply in
    let there = view_of parts made.directory made.kept in
    let same : made ≡ there =
    unique there made (system_bytes parts) refl (record { parts = parts; seen = refl; code = refl }) saved in
    let mine = is.seen in
    let theirs : booted.users
    ≡ users_of (map user_of boot.parts.users) boot.parts.volumes boot.parts.pool.storages
    = ap (λ (s : SystemView). s.users) boot.seen in
    record {
      further = further_of is.parts boot.parts stored n;
      users = ap (λ (s : SystemView). s.users) same ∙ all_users is.parts boot.parts stored n
          ∙ ap (λ (us : List Equipped). us ++ further_of is.parts boot.parts stored n)
          (sym (ap (λ (s : SystemView). s.users) mine));
      machines = further_machines is.parts boot.parts stored n
          ∙ ap (λ (us : List Equipped). map machine_in (drop n us)) (sym theirs);
      devices = further_devices is.parts boot.parts stored n
          ∙ ap (λ (us : List Equipped). map devices_in (drop n us)) (sym theirs);
      volumes = ap (λ (s : SystemView). s.volumes) same ∙ sym (ap (λ (s : SystemView). s.volumes) mine);
      files = ap (λ (s : SystemView). s.files) same ∙ sym (ap (λ (s : SystemView). s.files) mine);
      spent = ap (λ (s : SystemView). s.is_spent) same ∙ sym (ap (λ (s : SystemView). s.is_spent) mine);
    }
