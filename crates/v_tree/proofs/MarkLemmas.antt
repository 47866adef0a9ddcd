-- Whether two terminals are one.
use Rattle.std.proofs.Common.{◌≡◌, true, refl}
use denote.Enum.Bare.{same_true as one_if_same, true_same as same_if_one}
use Rattle.v_lexer.specs.contracts.types.terminal.Terminal.{the_type}
use Rattle.v_lexer.specs.declared.types.terminal.Terminal.{Terminal}
use Rattle.v_tree.specs.Marks.{same}

pub same_true : (a b : Terminal) → same a b ≡ true → a ≡ b
same_true a b e = one_if_same the_type tt a b e

pub same_of : (a b : Terminal) → a ≡ b → same a b ≡ true
same_of a b e = same_if_one the_type a b e

pub same_refl : (a : Terminal) → same a a ≡ true
same_refl a = same_of a a refl
