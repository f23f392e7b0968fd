-- A lane that takes another word, or that was another, comes to be another.
use Rattle.std.proofs.Common.{◌≡◌, ◌+◌, ◌*◌, ◌/◌, ◌%◌, ◌^◌, ◌<◌, ℕ, sym, ◌∙◌, ap, arith, mod-lt, pow_pos, subst, bit_or}
use Rattle.std.specs.Int.{w64, rotate_left}
use Rattle.std.proofs.lemmas.Nat.{or_shifted}
use Rattle.dm_journal.specs.Lanes.{add64, mul64, taken}

-- an odd factor
first_product : (a b : ℕ) → a < 2 ^ 64 → b < 2 ^ 64 → mul64 a 0x9E3779B185EBCA87 ≡ mul64 b 0x9E3779B185EBCA87 → a ≡ b
first_product a b la lb same = omega (arith, la, lb, same)

second_product : (a b : ℕ) → a < 2 ^ 64 → b < 2 ^ 64 → mul64 a 0xC2B2AE3D27D4EB4F ≡ mul64 b 0xC2B2AE3D27D4EB4F → a ≡ b
second_product a b la lb same = omega (arith, la, lb, same)

same_sum : (x a b : ℕ) → a < 2 ^ 64 → b < 2 ^ 64 → add64 x a ≡ add64 x b → a ≡ b
same_sum x a b la lb same = omega (arith, la, lb, same)

sum_same : (x a b : ℕ) → a < 2 ^ 64 → b < 2 ^ 64 → add64 a x ≡ add64 b x → a ≡ b
sum_same x a b la lb same = omega (arith, la, lb, same)

-- the rotation, as numbers
rotated : (n : ℕ) → n < 2 ^ 64 → rotate_left w64 n 31 ≡ n % 2 ^ 33 * 2 ^ 31 + n / 2 ^ 33
rotated n low =
    let high : n * 2 ^ 31 % 2 ^ 64 ≡ n % 2 ^ 33 * 2 ^ 31 = omega arith in
    let fits : n / 2 ^ 33 < 2 ^ 31 = omega (arith, low) in
    ap (λ (x : ℕ). bit_or x (n / 2 ^ 33)) high ∙ or_shifted (n % 2 ^ 33) 31 (n / 2 ^ 33) fits

same_rotated : (a b : ℕ) → a < 2 ^ 64 → b < 2 ^ 64 → rotate_left w64 a 31 ≡ rotate_left w64 b 31 → a ≡ b
same_rotated a b la lb same =
    let sums : a % 2 ^ 33 * 2 ^ 31 + a / 2 ^ 33 ≡ b % 2 ^ 33 * 2 ^ 31 + b / 2 ^ 33 = sym (rotated a la) ∙ same ∙ rotated b lb in
    omega (arith, la, lb, sums)

rotated-lt : (n : ℕ) → n < 2 ^ 64 → rotate_left w64 n 31 < 2 ^ 64
rotated-lt n low = subst (λ (x : ℕ). x < 2 ^ 64) (sym (rotated n low)) (omega (arith, low))

pub taken-lt : (lane word : ℕ) → taken lane word < 2 ^ 64
taken-lt lane word = omega arith

-- another word
pub taken_word : (lane a b : ℕ) → a < 2 ^ 64 → b < 2 ^ 64 → taken lane a ≡ taken lane b → a ≡ b
taken_word lane a b la lb same =
    let p : ℕ = mul64 a 0xC2B2AE3D27D4EB4F in
    let q : ℕ = mul64 b 0xC2B2AE3D27D4EB4F in
    let lp : add64 lane p < 2 ^ 64 = mod-lt (lane + p) (pow_pos 64) in
    let lq : add64 lane q < 2 ^ 64 = mod-lt (lane + q) (pow_pos 64) in
    let turned = first_product (rotate_left w64 (add64 lane p) 31) (rotate_left w64 (add64 lane q) 31) (rotated-lt (add64 lane p) lp) (rotated-lt (add64 lane q) lq) same in
    let sums = same_rotated (add64 lane p) (add64 lane q) lp lq turned in
    second_product a b la lb (same_sum lane p q (mod-lt (a * 0xC2B2AE3D27D4EB4F) (pow_pos 64)) (mod-lt (b * 0xC2B2AE3D27D4EB4F) (pow_pos 64)) sums)

-- another lane
pub taken_lane : (a b word : ℕ) → a < 2 ^ 64 → b < 2 ^ 64 → taken a word ≡ taken b word → a ≡ b
taken_lane a b word la lb same =
    let p : ℕ = mul64 word 0xC2B2AE3D27D4EB4F in
    let lp : add64 a p < 2 ^ 64 = mod-lt (a + p) (pow_pos 64) in
    let lq : add64 b p < 2 ^ 64 = mod-lt (b + p) (pow_pos 64) in
    let turned = first_product (rotate_left w64 (add64 a p) 31) (rotate_left w64 (add64 b p) 31) (rotated-lt (add64 a p) lp) (rotated-lt (add64 b p) lq) same in
    sum_same p a b la lb (same_rotated (add64 a p) (add64 b p) lp lq turned)
