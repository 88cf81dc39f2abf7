-- The loop's invariant is `Going` of LinesRead.antt: what is left to decide is the whole; and the bytes and the frame stay as long as they were. The
-- measure is the text left.
use Prim.Native.Nat.{ℕ, ◌+◌, ◌*◌, ◌≤◌}
use lib.ListN.{length}
use mathlib.Core.List.{List, []}
use mathlib.Core.Path.{◌≡◌, subst}
use native.Mathlib.Omega.{arith}
use borrow.Author.Rules.{rules}
use Rattle.frames.specs.declared.Head.{Head}
use Rattle.frames.specs.Frame.{edition, nodes, segments}
use Rattle.frames.specs.Decoded.{head_fields}
use Rattle.text.specs.Read.{segment_lines}
use Rattle.text.specs.Told.{ReadTold, told_of, refused_at}
use Rattle.std.proofs.lemmas.Result.{err_from_is_err_and}
use Rattle.text.proofs.LineLaws.{no_text, some_text, was_ok, was_err}
use Rattle.text.proofs.LinesRead.{room, refuses, lacks, keeps}
use Rattle.std.specs.Prelude.{Ok}
use Rattle.text.proofs.read.judge_lines.Goals as goal
use Rattle.text.proofs.read.judge_lines.Goals.{In_ok-map_err}

as_head : {r : ReadTold} {head : Head} (h u : List ℕ) → head ≡ head_fields h
    → r ≡ told_of (segment_lines head.edition head.nodes head.segments 2 [] h u)
    → r ≡ told_of (segment_lines (edition h) (nodes h) (segments h) 2 [] h u)
as_head {r} h u p x = subst (λ (a : Head). r ≡ told_of (segment_lines a.edition a.nodes a.segments 2 [] h u)) p x

pub returns-in_err-map_err : goal.returns-in_err-map_err
returns-in_err-map_err c =
    let p = was_err c.judge_line.result c.map_err.result _ c.map_err.ensures.cases c.in_err-map_err.was in
    let line : c.in_err-map_err.field-0.0 ≡ refused_at p.0 (c.loop-frame.s + 2) = search (rules, p.2) in
    let e = err_from_is_err_and c.from_residual.result c.from_residual.ensures.1 in
    rw (e.1, e.2, line)
    (as_head _ _ c.head_of-head.ensures
    (refuses c.loop-frame.invariant.0 (some_text _ c.is_empty.ensures c.loop-frame-test.true) c.judge_line.ensures p.1))

-- a line that was read fits the lines that were left
module _ (c : In_ok-map_err) where
  was_read : c.judge_line.result ≡ Ok c.in_ok-map_err.field-0
  was_read = was_ok c.judge_line.result c.map_err.result _ c.map_err.ensures.cases c.in_ok-map_err.was

  line_fits : 2 * c.frame_bytes-size.result + 1 ≤ length c.loop-frame.rest.now
  line_fits = room c.loop-frame.invariant.0 c.judge_line.ensures was_read c.frame_bytes-size.ensures.is

pub slice_bounds-rest-count : goal.slice_bounds-rest-count
slice_bounds-rest-count c = line_fits c

pub slice_bounds-rest-start : goal.slice_bounds-rest-start
slice_bounds-rest-start c = omega (arith, line_fits c)

pub returns-then-s-head : goal.returns-then-s-head
returns-then-s-head c =
    rw c.refused_at.ensures (as_head _ _ c.head_of-head.ensures (lacks c.loop-frame.invariant.0 (no_text _ c.is_empty.ensures c.loop-frame-test.false) c.if-s-head.true))

pub returns : goal.returns
returns c =
    as_head _ _ c.head_of-head.ensures
    (keeps c.loop-frame.invariant.0 c.kept_bytes.ensures (no_text _ c.is_empty.ensures c.loop-frame-test.false) c.if-s-head.false)
