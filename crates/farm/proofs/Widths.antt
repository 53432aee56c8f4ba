-- What a number writes that is given a width.
--   repeat_space    a space again and again
--   zeros_before    a number of two places, filled with zeros
--   spaces_before   a number of three places, filled with spaces
use Rattle.std.proofs.Common.{◌≡◌, ℕ, zero, suc, ◌-◌, ◌^◌, ◌∷◌, List, length, replicate, refl, ap, append-nil, arith}
use Rattle.std.specs.List.{repeat}
use Rattle.std.specs.Fmt.{decimal, styled_decimal, format_spec, padded_integral, char_count}
use lib.Utf8.{encode}
use Rattle.farm.specs.Words.{filled, two_digits}

repeat_space : (n : ℕ) → repeat n (encode 32) ≡ replicate n 32
unfolding encode
repeat_space zero = refl
repeat_space (suc n) = ap (λ (l : List ℕ). 32 ∷ l) (repeat_space n)

pub zeros_before : (n : ℕ) → styled_decimal (format_spec 32 0 4 2 (2 ^ 64 - 1)) n ≡ two_digits n
unfolding padded_integral char_count
zeros_before n =
    let lacking : 2 - length (decimal n) - 0 - 0 ≡ 2 - length (decimal n) = omega arith in
    rw lacking (simp append-nil)

pub spaces_before : (n : ℕ) → styled_decimal (format_spec 32 3 0 3 (2 ^ 64 - 1)) n ≡ filled 32 3 n
unfolding padded_integral char_count
spaces_before n =
    let lacking : 3 - length (decimal n) - 0 - 0 ≡ 3 - length (decimal n) = omega arith in
    let none : (3 - length (decimal n)) - (3 - length (decimal n)) ≡ 0 = omega arith in
    rw (lacking, none, repeat_space (3 - length (decimal n))) (simp append-nil)
