-- Pages that are put into their places, one more each time.
use Rattle.std.proofs.Common.{◌≡◌, ◌+◌, ℕ, zero, suc, List, [], ◌∷◌, ◌++◌, add-one, ap, length, refl, replicate}
use Rattle.std.specs.Prelude.{slice_get, Option, None}
use Rattle.cp_core.specs.System.{SystemView}
use Rattle.frame_map.specs.declared.places.Owner.{Owner}
use Rattle.frame_map.specs.declared.places.PlaceKind.{PlaceKind}
use Rattle.frame_map.specs.Places.{pages_of, place_in, put_at, put_pages, put_users}

-- one page more
pub page_more : (place : ℕ → Option ℕ) (user page : ℕ) (places : List (Option Owner))
    → put_pages place user (page + 1) places
    ≡ put_at (place page) (record { user = user; page = page }) (put_pages place user page places)
page_more place user page places = rw add-one refl

-- one user more
pub user_more : (s : SystemView) (kind : PlaceKind) (user : ℕ) (places : List (Option Owner))
    → put_users s kind (user + 1) places
    ≡ put_pages (place_in s kind user) user (pages_of (slice_get s.directory user)) (put_users s kind user places)
user_more s kind user places = rw add-one refl

behind : (n : ℕ) (x : Option Owner) → replicate n x ++ x ∷ [] ≡ replicate (suc n) x
behind zero x = refl
behind (suc n) x = ap (λ (l : List (Option Owner)). x ∷ l) (behind n x)

-- one free place more
pub free_more : (n : ℕ) → replicate {A = Option Owner} n None ++ None ∷ [] ≡ replicate (n + 1) None
free_more n = rw add-one (behind n None)
