-- What every edition keeps to, so that the proofs need no edition's own numbers: the bounds of specs/Edition.antt.
-- Assumes nothing.
use Prim.Native.Nat.{ℕ, ◌+◌, ◌*◌, ◌≤◌}
use mathlib.Core.Bool.{Bool, true, false}
use mathlib.Core.Path.{◌≡◌, refl}
use native.Mathlib.Omega.{arith}
use native.Mathlib.Nat.{mul-le-mul}
use Rattle.std.proofs.lemmas.Bool.Decides.{nat_tests}
use Rattle.frames.specs.Edition.{is_newer, is_wide, extra, segment_bytes, frame_bytes, most_nodes, most_segments, most_feet, crosses_nothing, most_kept}
use Rattle.frames.specs.Steps.Sizes.{county_size, county_feet, most_bytes, Alike}
use Rattle.frames.specs.Ranges.{within}

pub frame_extra : (e : ℕ) → frame_bytes e ≡ segment_bytes + extra e
unfolding frame_bytes
frame_extra e = refl

pub frame_most : (e : ℕ) → frame_bytes e ≤ most_bytes
unfolding frame_bytes extra
frame_most e = grind (arith, nat_tests)

pub frame_least : (e : ℕ) → segment_bytes ≤ frame_bytes e
frame_least e = omega (arith, frame_extra e)

-- a control that crosses nothing is none of those that have lanes and a speed
pub crosses_or_not : (newer : Bool) (control : ℕ) → crosses_nothing newer control ≡ true → within 2 4 control ≡ false
unfolding crosses_nothing
crosses_or_not newer control h = grind (arith, nat_tests)

pub nodes_few : (e : ℕ) → most_nodes e ≤ county_size
unfolding most_nodes
nodes_few e = grind (arith, nat_tests)

pub segments_few : (e : ℕ) → most_segments e ≤ county_size
unfolding most_segments
segments_few e = grind (arith, nat_tests)

pub feet_few : (e : ℕ) → most_feet e ≤ county_feet
unfolding most_feet
feet_few e = grind (arith, nat_tests)

-- so many frames of such a size have room in a usize
pub frames_few : (size s : ℕ) → size ≤ most_bytes → s ≤ county_size → size * s ≤ most_bytes * county_size
frames_few size s p q = mul-le-mul {n₁ = size} {m₁ = s} {n₂ = most_bytes} {m₂ = county_size} p q

-- the bytes of a network with so many segments
pub kept_most : (e s : ℕ) → s ≤ most_segments e → 7 + frame_bytes e * s ≤ most_kept
kept_most e s h = omega (arith, frames_few (frame_bytes e) s (frame_most e) (omega (arith, segments_few e)))

-- editions that are alike have frames of one size
pub alike_frames : {e d : ℕ} → Alike e d → frame_bytes e ≡ frame_bytes d
unfolding frame_bytes extra
alike_frames a = rw a.wide refl

-- every edition is alike to one of the three
pub alike_first : (e : ℕ) → is_newer e ≡ false → Alike 1 e
unfolding is_newer is_wide
alike_first e h = record { newer = grind (arith, nat_tests); wide = grind (arith, nat_tests) }

pub alike_second : (e : ℕ) → is_newer e ≡ true → is_wide e ≡ false → Alike 2 e
unfolding is_newer is_wide
alike_second e h w = record { newer = grind (arith, nat_tests); wide = grind (arith, nat_tests) }

pub alike_third : (e : ℕ) → is_wide e ≡ true → Alike 3 e
unfolding is_newer is_wide
alike_third e w = record { newer = grind (arith, nat_tests); wide = grind (arith, nat_tests) }
