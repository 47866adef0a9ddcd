-- Inputs that are handed on, one after another.
use Rattle.std.proofs.Common.{◌≡◌, List, [], ◌∷◌, ◌++◌, refl, sym, ap, ◌∙◌, append_assoc, append-nil}
use Rattle.v_binding.specs.Steps.{through}
use Rattle.v_binding.specs.Bound.{Root, with_root}
use Rattle.v_binding.specs.Binding.{nothing_bound}

roots-behind : (rs before : List Root) → through with_root rs (nothing_bound before) ≡ nothing_bound (before ++ rs)
roots-behind [] before = ap nothing_bound (sym (append-nil before))
roots-behind (r ∷ rs) before = roots-behind rs (before ++ r ∷ []) ∙ ap nothing_bound (append_assoc before (r ∷ []) rs)

pub all_roots : (rs : List Root) → through with_root rs (nothing_bound []) ≡ nothing_bound rs
all_roots rs = roots-behind rs []
