-- The number of a file, as it is printed.
use Rattle.std.proofs.Common.{◌≡◌, ℕ, ◌-◌, ◌^◌, false, [], ◌++◌, decimal, length, replicate, ap, arith}
use Rattle.std.proofs.lemmas.List.{append-nil}
use Rattle.std.specs.Fmt.{char_count, padded_integral, format_spec}
use Rattle.cp_console.specs.Responses.{file_number}

-- four digits at least, with zeros before them
pub four_digits : (file : ℕ)
    → padded_integral (format_spec 32 0 4 4 (2 ^ 64 - 1)) false [] (decimal file) ≡ file_number file
unfolding padded_integral char_count
four_digits file =
    let zeros : 4 - length (decimal file) - 0 - 0 ≡ 4 - length (decimal file) = omega arith in
    rw (append-nil (decimal file)) (ap (λ count. replicate count 48 ++ decimal file) zeros)
