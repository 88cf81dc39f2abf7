-- How bytes are decoded: a list that is filled one number at a time, from what is left of another; values of digits joined by twos; and two parts
-- that overlap.
-- Assumes nothing.
use Prim.Native.Nat.{ℕ, zero, suc, ◌+◌, ◌*◌, ◌-◌, ◌/◌, ◌%◌, ◌≤◌, ◌<◌}
use mathlib.Core.Bool.{Bool, true, false, ◌&&◌}
use mathlib.Core.Path.{◌≡◌, refl, sym, ap, ap₂, ◌∙◌}
use mathlib.Core.List.{List, [], ◌∷◌, ◌++◌, append-nil, append_assoc}
use native.Mathlib.Omega.{arith}
use native.Mathlib.Nat.{sub-zero, mul-zero}
use lib.ListN.{length, get_or, take, drop, set, length-set, length-append, length-take, length-drop, drop_of_length-le}
use lib.Seq.{drop-drop, get_or-drop, take_all, take_at}
use Rattle.std.proofs.lemmas.List.{take_rest}
use Rattle.lists.proofs.Lists.{times_next, take_stored}
use Rattle.digits.specs.Digits.{is_digit}
use Rattle.digits.specs.Steps.Scan.{spelled, are_digits, made, values_of, pair_at, paired, Valued, Decoding}
use Rattle.digits.proofs.DigitLaws.{digit_small, length_spelled}

-- ---- a list that is filled: k numbers are made, and with those that are left to make they are the whole
pub record Filling (front : List ℕ → ℕ) (step : ℕ) (t d₀ d : List ℕ) (k : ℕ) : Type 0 where
  pub low : k ≤ length d₀
  pub long : length d ≡ length d₀
  pub whole : take k d ++ made front step (length d₀ - k) (drop (step * k) t) ≡ made front step (length d₀) t

pub filling_starts : (front : List ℕ → ℕ) (step : ℕ) (t d : List ℕ) → Filling front step t d d 0
filling_starts front step t d = record { low = omega arith; long = refl; whole = rw (sub-zero, mul-zero) }

made_step : (front : List ℕ → ℕ) (step n k : ℕ) (t : List ℕ) → k < n
    → made front step (n - k) (drop (step * k) t) ≡ front (drop (step * k) t) ∷ made front step (n - (k + 1)) (drop (step * (k + 1)) t)
unfolding made
made_step front step n k t h =
    let z : n - k ≡ suc (n - (k + 1)) = omega arith in
    let o : step * (k + 1) ≡ step * k + step = omega (arith, times_next step k) in
    rw (z, made, drop-drop step (step * k) t, o)

made_none : (front : List ℕ → ℕ) (step n k : ℕ) (t : List ℕ) → n ≤ k → made front step (n - k) t ≡ []
unfolding made
made_none front step n k t h = let z : n - k ≡ 0 = omega arith in rw z

module _ {front : List ℕ → ℕ} {step : ℕ} {t d₀ d : List ℕ} {k : ℕ} (w : Filling front step t d₀ d k) where
  pub filling_goes_on : {b : ℕ} → k < length d → b ≡ front (drop (step * k) t) → Filling front step t d₀ (set d k b) (k + 1)
  filling_goes_on {b} l e =
      record {
        low = omega arith;
        long = simp length-set w.long;
        whole =
            take_stored d k b _ l
            ∙ ap (λ (u : List ℕ). take k d ++ u)
            (ap (λ (x : ℕ). x ∷ made front step (length d₀ - (k + 1)) (drop (step * (k + 1)) t)) e
            ∙ sym (made_step front step (length d₀) k t (omega arith)))
            ∙ w.whole;
      }

  pub filling_ends : length d ≤ k → d ≡ made front step (length d₀) t
  filling_ends l =
      let e : take k d ++ made front step (length d₀ - k) (drop (step * k) t) ≡ d =
      rw (take_all k d l, made_none front step (length d₀) k (drop (step * k) t) (omega arith), append-nil) in
      sym e ∙ w.whole

-- ---- whether all are digits, as a loop finds out
digits_next : (n k : ℕ) (t : List ℕ) → k < n → are_digits (n - k) (drop k t) ≡ (is_digit (get_or t k 0) && are_digits (n - (k + 1)) (drop (k + 1) t))
unfolding are_digits
digits_next n k t h =
    let z : n - k ≡ suc (n - (k + 1)) = omega arith in
    let o : k + 0 ≡ k = omega arith in
    rw (z, are_digits, get_or-drop k t 0 0, drop-drop 1 k t, o)

and_assoc : (a b x : Bool) → ((a && b) && x) ≡ (a && (b && x))
and_assoc true b x = refl
and_assoc false b x = refl

pub value_here : (t : List ℕ) (k : ℕ) → get_or t k 0 ≡ get_or (drop (1 * k) t) 0 0
value_here t k =
    let o : 1 * k + 0 ≡ k = omega arith in
    sym (rw (get_or-drop (1 * k) t 0 0, o))

pub digits_step : (good : Bool) {g : Bool} (n k : ℕ) (t : List ℕ) → k < n → g ≡ is_digit (get_or t k 0)
    → ((good && g) && are_digits (n - (k + 1)) (drop (k + 1) t)) ≡ (good && are_digits (n - k) (drop k t))
digits_step good {g} n k t h e =
    and_assoc good g _
    ∙ ap (λ (x : Bool). good && x) (ap (λ (x : Bool). x && are_digits (n - (k + 1)) (drop (k + 1) t)) e ∙ sym (digits_next n k t h))

pub digits_end : (good : Bool) (n k : ℕ) (t : List ℕ) → n ≤ k → good ≡ (good && are_digits (n - k) t)
unfolding are_digits
digits_end good n k t h = let z : n - k ≡ 0 = omega arith in rw z (sym (and_true_right good))
  where
    and_true_right : (b : Bool) → (b && true) ≡ b
    and_true_right true = refl
    and_true_right false = refl

-- ---- values of digits, and the bytes that they join to
pub values_small : (n : ℕ) (t : List ℕ) (i : ℕ) → get_or (values_of n t) i 0 < 16
unfolding made
values_small zero t i = omega arith
values_small (suc n) t zero = digit_small (get_or t 0 0)
values_small (suc n) t (suc i) = values_small n (drop 1 t) i

paired_values : (n : ℕ) (t : List ℕ) → paired n (values_of (2 * n) t) ≡ spelled n t
unfolding made spelled
paired_values zero t = refl
paired_values (suc n) t =
    let z : 2 * suc n ≡ suc (suc (2 * n)) = omega arith in
    rw (z, get_or-drop 1 t 0 0, drop-drop 1 1 t, paired_values n (drop 2 t))

pub values_join : {n m : ℕ} {t v b : List ℕ} {r : Bool} → m ≡ 2 * n → Valued m t v r → b ≡ paired n v → Decoding n t b r
values_join {n} {m} {t} h w e =
    record {
      bytes = e ∙ ap (paired n) (w.values ∙ ap (λ (i : ℕ). values_of i t) h) ∙ paired_values n t;
      digits = w.digits ∙ ap (λ (i : ℕ). are_digits i t) h;
    }

pub pair_here : (v : List ℕ) (k : ℕ) → 16 * get_or v (2 * k) 0 + get_or v (2 * k + 1) 0 ≡ pair_at (drop (2 * k) v)
pair_here v k =
    let o : 2 * k + 0 ≡ 2 * k = omega arith in
    sym (rw (get_or-drop (2 * k) v 0 0, get_or-drop (2 * k) v 1 0, o))

-- the byte of a pair, as the code makes it
pub pair_byte : (x y : ℕ) → x < 16 → y < 16 → (x + 256 * y) * 4097 / 256 % 256 ≡ 16 * x + y
pair_byte x y h l =
    let q : (x + 256 * y) * 4097 / 256 ≡ 16 * x + 4097 * y = omega arith in
    let r : (16 * x + 4097 * y) % 256 ≡ 16 * x + y = omega arith in
    rw q r

-- ---- parts of a text: the first digits or bytes, then those after them
digits_parts : (m n : ℕ) (t : List ℕ) → are_digits (m + n) t ≡ (are_digits m t && are_digits n (drop m t))
unfolding are_digits
digits_parts zero n t = let z : 0 + n ≡ n = omega arith in rw z
digits_parts (suc m) n t =
    let z : suc m + n ≡ suc (m + n) = omega arith in
    let o : 1 + m ≡ suc m = omega arith in
    rw (z, are_digits, digits_parts m n (drop 1 t), drop-drop m 1 t, o) (sym (and_assoc (is_digit (get_or t 0 0)) (are_digits m (drop 1 t)) _))

spelled_parts : (m n : ℕ) (t : List ℕ) → spelled (m + n) t ≡ spelled m t ++ spelled n (drop (2 * m) t)
unfolding spelled
spelled_parts zero n t = let z : 0 + n ≡ n = omega arith in rw z
spelled_parts (suc m) n t =
    let z : suc m + n ≡ suc (m + n) = omega arith in
    let o : 2 + 2 * m ≡ 2 * suc m = omega arith in
    rw (z, spelled, spelled_parts m n (drop 2 t), drop-drop (2 * m) 2 t, o)

-- the first 16 bytes and the last 16, of 16 to 32
module _ (n start : ℕ) (t : List ℕ) (h : n ≡ start + 16) (l : start ≤ 16) where
  both_twice : (a b x : Bool) → ((a && b) && (b && x)) ≡ ((a && b) && x)
  both_twice true true x = refl
  both_twice true false x = refl
  both_twice false b x = refl

  overlapping_digits : (are_digits 32 t && are_digits 32 (drop (2 * start) t)) ≡ are_digits (2 * n) t
  overlapping_digits =
      let mid = 32 - 2 * start in
      let w : 32 ≡ 2 * start + mid = omega arith in
      let v : 32 ≡ mid + 2 * start = omega arith in
      let u : 2 * n ≡ 32 + 2 * start = omega arith in
      let a : are_digits 32 t ≡ (are_digits (2 * start) t && are_digits mid (drop (2 * start) t)) =
      ap (λ (i : ℕ). are_digits i t) w ∙ digits_parts (2 * start) mid t in
      let b : are_digits 32 (drop (2 * start) t) ≡ (are_digits mid (drop (2 * start) t) && are_digits (2 * start) (drop 32 t)) =
      ap (λ (i : ℕ). are_digits i (drop (2 * start) t)) v ∙ digits_parts mid (2 * start) (drop (2 * start) t)
      ∙ ap (λ (l : List ℕ). are_digits mid (drop (2 * start) t) && are_digits (2 * start) l)
      (drop-drop mid (2 * start) t ∙ ap (λ (i : ℕ). drop i t) (sym w)) in
      let c : are_digits (2 * n) t ≡ (are_digits 32 t && are_digits (2 * start) (drop 32 t)) =
      ap (λ (i : ℕ). are_digits i t) u ∙ digits_parts 32 (2 * start) t in
      ap₂ ◌&&◌ a b ∙ both_twice (are_digits (2 * start) t) (are_digits mid (drop (2 * start) t)) (are_digits (2 * start) (drop 32 t))
      ∙ sym (c ∙ ap (λ (x : Bool). x && are_digits (2 * start) (drop 32 t)) a)

  overlapping_bytes : (r : List ℕ) → take start (spelled 16 t ++ r) ++ spelled 16 (drop (2 * start) t) ≡ spelled n t
  overlapping_bytes r =
      let w : 16 ≡ start + (16 - start) = omega arith in
      let s : spelled 16 t ≡ spelled start t ++ spelled (16 - start) (drop (2 * start) t) =
      ap (λ (i : ℕ). spelled i t) w ∙ spelled_parts start (16 - start) t in
      rw (
        s,
        append_assoc (spelled start t) (spelled (16 - start) (drop (2 * start) t)) r,
        take_at (spelled start t) (spelled (16 - start) (drop (2 * start) t) ++ r) start (length_spelled start t),
        h,
      )
      (sym (spelled_parts start 16 t))

-- both parts decoded, the second put over the first
module _ (t d : List ℕ) {b₁ b₂ : List ℕ} {r₁ r₂ : Bool} (least : 16 ≤ length d) (most : length d ≤ 32) where
  pub parts_join : let start = length d - 16 in let d₁ = b₁ ++ drop 16 d in
      Decoding (length (take 16 d)) t b₁ r₁
      → Decoding (length (take (length d - start) (drop start d₁))) (take (length t - 2 * start) (drop (2 * start) t)) b₂ r₂
      → Decoding (length d) t (take start d₁ ++ (b₂ ++ drop (length d - start) (drop start d₁))) (r₁ && r₂)
  parts_join p q =
      let start = length d - 16 in
      let d₁ = b₁ ++ drop 16 d in
      let h : length d ≡ start + 16 = omega arith in
      let l : start ≤ 16 = omega arith in
      let m : length d - start ≡ 16 = omega arith in
      let e₁ : length (take 16 d) ≡ 16 = simp length-take (omega arith) in
      let f : b₁ ≡ spelled 16 t = p.bytes ∙ ap (λ (i : ℕ). spelled i t) e₁ in
      let k : length d₁ ≡ length d = omega (arith, length-append b₁ (drop 16 d), length-drop 16 d, ap length f, length_spelled 16 t) in
      let e₂ : length (take (length d - start) (drop start d₁)) ≡ 16 = simp (length-take, length-drop) (omega arith) in
      let u : take (length t - 2 * start) (drop (2 * start) t) ≡ drop (2 * start) t = take_rest t (2 * start) in
      let g : b₂ ≡ spelled 16 (drop (2 * start) t) = q.bytes ∙ ap₂ spelled e₂ u in
      let z : drop (length d - start) (drop start d₁) ≡ [] =
      drop-drop (length d - start) start d₁ ∙ drop_of_length-le d₁ {i = start + (length d - start)} (omega arith) in
      record {
        bytes = rw (z, append-nil, f, g) (overlapping_bytes (length d) start t h l (drop 16 d));
        digits =
            ap₂ ◌&&◌ (p.digits ∙ ap (λ (i : ℕ). are_digits (2 * i) t) e₁)
            (q.digits ∙ ap₂ (λ (i : ℕ) (v : List ℕ). are_digits (2 * i) v) e₂ u) ∙ overlapping_digits (length d) start t h l;
      }
