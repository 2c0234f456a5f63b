-- Bytes are those of one pool.
use Rattle.std.specs.Prelude.{refl}
use Rattle.saved_bytes.specs.Codes.{each, flag, number, optional, both, IsCode}
use Rattle.saved_bytes.proofs.Codes.{each_code, flag_code, number_code, optional_code, both_code, of_parts, one_value}
use Rattle.cp_frames.specs.declared.numbers.UserPage.{UserPage}
use Rattle.cp_frames.specs.Layout.{FrameSupply, Pool, owned}
use Rattle.cp_frames.specs.Saved.{page_bytes, supply_bytes, storage_bytes, pool_bytes, IsOneBySaved}
use Rattle.cp_frames.proofs.Packed.{storage_code}

pub page_code : IsCode page_bytes
page_code = of_parts (both number number) (both_code number number number_code number_code)
    (λ (p : UserPage). (p.user, p.page.0)) (λ p. owned p.0 p.1) (λ p. refl)

pub supply_code : IsCode supply_bytes
supply_code =
    let places = each_code (optional page_bytes) (optional_code page_bytes page_code) in
    let last = both_code (each number) number (each_code number number_code) number_code in
    let pins = both_code (each flag) (both (each number) number) (each_code flag flag_code) last in
    let slots = both_code (each (optional page_bytes)) (both (each flag) (both (each number) number)) places pins in
    let owners = both_code (each (optional page_bytes))
    (both (each (optional page_bytes)) (both (each flag) (both (each number) number))) places slots in
    of_parts (both (each (optional page_bytes))
    (both (each (optional page_bytes)) (both (each flag) (both (each number) number)))) owners
    (λ (s : FrameSupply). (s.owners, (s.slots, (s.pins, (s.order, s.page_ins)))))
    (λ p. record { owners = p.0; slots = p.1.0; pins = p.1.1.0; order = p.1.1.1.0; page_ins = p.1.1.1.1 })
    (λ s. refl)

-- The bytes of a pool are a code: it is read back, whatever follows it.
pub pool_code : IsCode pool_bytes
pool_code =
    of_parts (both supply_bytes (each storage_bytes))
    (both_code supply_bytes (each storage_bytes) supply_code (each_code storage_bytes storage_code))
    (λ (p : Pool). (p.supply, p.storages)) (λ p. record { storages = p.1; supply = p.0 }) (λ p. refl)

-- A restored pool is the saved one.
pub one_pool : IsOneBySaved
one_pool = one_value pool_bytes pool_code
