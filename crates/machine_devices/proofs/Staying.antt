-- The page of the PSW is the first one.
use Rattle.std.proofs.Common.{ℕ, ◌≡◌, [], ◌∷◌, inl, inr, arith}
use Rattle.s370_store.specs.Access.{Touches}
use Rattle.s370_store.specs.declared.Access.TheVariants.{Store}
use Rattle.s370_walk.specs.Hardware.{area}

pub psw_first : (page : ℕ) → Touches (area Store 0 8 ∷ []) page → page ≡ 0
psw_first page (inl h) = omega (arith, h.1, h.2)
psw_first page (inr h) = absurd h
