-- What the private contracts of a name's size say.
use Rattle.std.specs.Prelude.{ℕ, ◌≡◌, true}
use Rattle.design_core.specs.Constant.{zeros}
use Rattle.v_sizes.specs.Sizing.{Sizing, own}
use Rattle.v_selects.specs.declared.name_size.OwnSize.{OwnSize}

-- the size of an expression by itself, with its number where it is a constant
pub record IsSizeOf (size : OwnSize) (e : Sizing) : Type 0 where
  pub of_width : size.width ≡ e.width
  pub of_sign : size.signed ≡ e.signed
  pub of_constant : size.constant ≡ e.constant
  pub of_number : e.constant ≡ true → size.number ≡ own e zeros
