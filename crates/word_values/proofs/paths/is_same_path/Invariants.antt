use Rattle.std.proofs.Common.{◌≡◌, length}
use Rattle.std.specs.Cmp.Lexicographic.{pointwise}
use Rattle.std.specs.Path.{components_remaining}
use Rattle.std.specs.Str.{bytes_eq}
use Rattle.word_values.specs.Paths.{is_same_path}
use Rattle.word_values.proofs.paths.is_same_path.Given as goal

abbrev pub invariant-loop-part : goal.invariant-loop-part
invariant-loop-part l = record {
  rest : is_same_path l.one l.other ≡ pointwise bytes_eq (components_remaining l.left) (components_remaining l.right);
}

abbrev pub decreases-loop-part : goal.decreases-loop-part
decreases-loop-part l = length (components_remaining l.left)
