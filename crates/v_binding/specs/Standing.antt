-- Instances whose names stand for something: each range has 1 to 128 bits, and the variable of a loop 32 at each of its turns.
-- Elaboration makes no others.
use Rattle.std.specs.Prelude.{⊤, ◌≡◌, List, [], ◌∷◌}
use Rattle.loc_base.specs.Bits.{width_of}
use Rattle.v_sizes.specs.Context.{IsMeaning}
use Rattle.v_hierarchy.specs.Names.{Entry, meaning_of, bounds_of}
use Rattle.v_hierarchy.specs.Stands.{IsRange}
use Rattle.v_hierarchy.specs.Headers.{Port}
use Rattle.v_hierarchy.specs.Items.{Copied, written, always, child, inner, turn, Block, scope, Copies, no_copy, copy}
use Rattle.v_hierarchy.specs.Instances.{Instance}
use Rattle.v_binding.specs.Turns.{FitTurns}

abbrev pub EntriesStand : List Entry → Type 0
EntriesStand [] = ⊤
EntriesStand (e ∷ es) = IsMeaning (meaning_of e.standing) × EntriesStand es

abbrev pub PortsStand : List Port → Type 0
PortsStand [] = ⊤
PortsStand (p ∷ ps) = IsRange (bounds_of p.signal) × PortsStand ps

abbrev mutual
  pub CopiesStand : Copies → Type 0
  CopiesStand no_copy = ⊤
  CopiesStand (copy x xs) = CopiedStands x × CopiesStand xs

  pub CopiedStands : Copied → Type 0
  CopiedStands (written _) = ⊤
  CopiedStands (always _ _ body) = FitTurns body
  CopiedStands (child _ _) = ⊤
  CopiedStands (inner (scope _ entries copies)) = EntriesStand entries × CopiesStand copies
  CopiedStands (turn _ value (scope _ entries copies)) =
      (width_of value.bits ≡ 32) × EntriesStand entries × CopiesStand copies

abbrev pub BlockStands : Block → Type 0
BlockStands (scope _ entries copies) = EntriesStand entries × CopiesStand copies

abbrev pub InstancesStand : List Instance → Type 0
InstancesStand [] = ⊤
InstancesStand (i ∷ is) = PortsStand i.ports × BlockStands i.body × InstancesStand is
