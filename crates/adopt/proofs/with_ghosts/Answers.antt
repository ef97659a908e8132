use mathlib.Core.Path.{◌∙◌}
use native.Mathlib.Omega.{arith}
use Rattle.rules.specs.Adopt.{with_ghosts}
use Rattle.adopt.proofs.Marks.{marks_first, marks_none, marks_one, marks_done}
use Rattle.adopt.proofs.Orphans.{orphan_there}
use Rattle.adopt.proofs.with_ghosts.Goals.{then-is_orphan, else-is_orphan}
use Rattle.adopt.proofs.with_ghosts.Goals as goal

pub loop-j-init : goal.loop-j-init
loop-j-init c = rw (c.book_byte-marks.ensures, c.from.ensures) (marks_first _ _ (omega arith))

pub loop-j-preserved : goal.loop-j-preserved
loop-j-preserved c = elim c.if-is_orphan.branch [
  | then-is_orphan w ↦ rw (w.marks-is, w.with_mark-marks.ensures) (marks_one _ _ _ _ c.loop-j.invariant (omega arith) (orphan_there _ _ _ _ _ _ _ c.is_orphan.ensures w.if-is_orphan.true c.book.ensures.0 c.new-g.ensures))
  | else-is_orphan w ↦ rw w.marks-is (marks_none _ _ _ _ c.loop-j.invariant (orphan_there _ _ _ _ _ _ _ c.is_orphan.ensures w.if-is_orphan.false c.book.ensures.0 c.new-g.ensures))
]

pub returns : goal.returns
unfolding with_ghosts
returns c = c.loop-j.invariant ∙ marks_done _ _ _ (omega arith)
