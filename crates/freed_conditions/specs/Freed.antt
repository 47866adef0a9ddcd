-- A statement with its conditions freed: each condition that is not a constant is kept in a net of its own by an assignment right
-- before its statement, and the statement goes by that net (IEEE 1364-2005, 9.4 and 9.5).
use Rattle.std.specs.Prelude.{false, if◌then◌else◌, [], ◌∷◌}
use Rattle.design_core.specs.declared.statement.Stmt.{Stmt, Row_of-Stmt, end_of-Stmt, more_of-Stmt, Row_of-CaseItem, end_of-CaseItem, more_of-CaseItem}
use Rattle.design_core.specs.declared.statement.Stmt.TheVariants.{Nothing, Block', If', Case', Set}
use Rattle.design_core.specs.Constant.{is_constant}
use Rattle.freed_conditions.specs.Kept.{truth, kept_of, subject_of, whole, Next, behind, behind_one, keep}
use Rattle.freed_conditions.specs.Widths.{widths, widths_in}

-- one statement after another
abbrev pub both : Stmt → Stmt → Stmt
both first second = Block' (tt ∷ tt ∷ []) (more_of-Stmt first (more_of-Stmt second end_of-Stmt))

abbrev mutual
  -- a statement with its conditions freed, the first of them in the next signal
  pub freed : Next → Stmt → Stmt
  freed n Nothing = Nothing
  freed n (Block' shape statements) = Block' shape (freed_all n statements)
  freed n (If' test _ (more_of-Stmt on_true end_of-Stmt) _ (more_of-Stmt on_false end_of-Stmt)) =
      if is_constant test.node
      then If' test _ (more_of-Stmt (freed n on_true) end_of-Stmt) _ (more_of-Stmt (freed (behind (widths on_true) n) on_false) end_of-Stmt)
      else both (keep n (truth test))
      (If' (whole 1 false n.signal) _ (more_of-Stmt (freed (behind_one n) on_true) end_of-Stmt)
      _ (more_of-Stmt (freed (behind (widths on_true) (behind_one n)) on_false) end_of-Stmt))
  freed n (Case' subject shape items _ (more_of-Stmt other end_of-Stmt) wild) =
      if is_constant subject.node
      then Case' subject shape (freed_in n items) _ (more_of-Stmt (freed (behind (widths_in items) n) other) end_of-Stmt) wild
      else both (keep n (kept_of subject))
      (Case' (subject_of subject n.signal) shape (freed_in (behind_one n) items)
      _ (more_of-Stmt (freed (behind (widths_in items) (behind_one n)) other) end_of-Stmt) wild)
  freed n (Set place target value later) = Set place target value later

  -- statements in order
  pub freed_all : {shape : _} → Next → Row_of-Stmt shape → Row_of-Stmt shape
  freed_all n end_of-Stmt = end_of-Stmt
  freed_all n (more_of-Stmt statement rest) = more_of-Stmt (freed n statement) (freed_all (behind (widths statement) n) rest)

  -- the bodies of case items; labels stay
  pub freed_in : {shape : _} → Next → Row_of-CaseItem shape → Row_of-CaseItem shape
  freed_in n end_of-CaseItem = end_of-CaseItem
  freed_in n (more_of-CaseItem labels body rest) = more_of-CaseItem labels (freed n body) (freed_in (behind (widths body) n) rest)
