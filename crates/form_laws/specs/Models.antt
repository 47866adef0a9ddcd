-- What an assignment of a form's variables says of literals, of sets of suspects and of the bits of places.
use Rattle.std.specs.Prelude.{ℕ, ◌≡◌, ◌+◌, ◌≤◌, ◌<◌, ◌==◌, ◌&&◌, Bool, true, if◌then◌else◌, not, cond, suc, List, [], ◌∷◌, map}
use Rattle.std.specs.List.{list_any}
use Rattle.gate_base.specs.declared.literal.Literal.{Literal}
use Rattle.gate_base.specs.declared.literal.Literal.TheVariants.{Known, Of}
use Rattle.suspect_map.specs.declared.group.Group.{Group}
use Rattle.clause_base.specs.Satisfaction.{value_of}
use Rattle.design_core.specs.declared.trace.Trace.{Trace}
use Rattle.design_core.specs.Works.{places_of}
use Rattle.unroller.specs.declared.free_bit.FreeBit.{FreeBit}
use Rattle.unroller.specs.declared.unrolled_lit.UnrolledLit.{UnrolledLit}
use Rattle.unroller.specs.declared.unrolled_lit.UnrolledLit.TheVariants as lit
use Rattle.unroller.specs.Unrolls.{Unrolling}
use Rattle.unroller.specs.Reads.{IsFreeAt, IsFreeBit, moment_of}
use Rattle.form_laws.specs.Runs.{Chosen}

-- the value of a literal over definitions, the first of which has the variable `base`
abbrev pub literal_in : (ℕ → Bool) → ℕ → Literal → Bool
literal_in a base (Known value) = value
literal_in a base (Of node negated) = cond negated (not (a (base + node))) (a (base + node))

-- the value of a bit of the form
abbrev pub value_in : (ℕ → Bool) → UnrolledLit → Bool
value_in a (lit.Const value) = value
value_in a (lit.Of l) = value_of a l

-- a number is one of the set's
abbrev pub is_member : List ℕ → ℕ → Bool
is_member set i = list_any (λ m. m == i) set

-- of the suspects from 1 to n exactly those of the set have a true selector
abbrev pub Selects : (ℕ → Bool) → ℕ → List ℕ → Type 0
Selects a n set = (i : ℕ) → 1 ≤ i → i ≤ n → a i ≡ is_member set i

-- the places of a set's suspects
abbrev pub freed_by : List Group → List ℕ → ℕ → Bool
freed_by groups set place = places_of (map (λ group. group.places) groups) set place

-- the first of the free bits that is that bit of that place
abbrev pub is_bit : ℕ → ℕ → FreeBit → Bool
is_bit place bit x = (x.place == place) && (x.bit == bit)

abbrev pub column_of : List FreeBit → ℕ → ℕ → ℕ
column_of [] place bit = 0
column_of (x ∷ bits) place bit = if is_bit place bit x then 0 else suc (column_of bits place bit)

-- no other is
abbrev pub HasOneColumnEach : Unrolling → Type 0
HasOneColumnEach u = (one other place bit : ℕ) → IsFreeBit u place bit one → IsFreeBit u place bit other → one ≡ other

-- each bit that is chosen for a freed place in a cycle of the trace with that number is what the assignment gives to the literal
-- of that bit
abbrev pub AreOfModel : (ℕ → Bool) → Unrolling → (ℕ → Bool) → ℕ → Trace → Chosen → Type 0
AreOfModel a u freed number trace chosen =
    (t place bit : ℕ) (l : UnrolledLit) → t < trace.cycles → freed place ≡ true → IsFreeAt u (moment_of u number t) place bit l
    → chosen t place bit ≡ value_in a l
