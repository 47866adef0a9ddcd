-- Worked examples: the clauses of two small forms, one by one.
use Rattle.std.proofs.Common.{◌≡◌, ℕ, true, false, List, [], ◌∷◌, length, refl, arith}
use Rattle.loc_base.specs.declared.bits.Bits.{Bits}
use Rattle.gate_base.specs.declared.literal.Literal.TheVariants.{Known, Of}
use Rattle.gate_base.specs.declared.node.Node.TheVariants.{Free}
use Rattle.gate_base.specs.Literals.{opposite}
use Rattle.design_core.specs.declared.trace.Checked.{Checked}
use Rattle.suspect_map.specs.declared.group.Group.{Group}
use Rattle.clause_base.specs.declared.literal.Lit.{Lit}
use Rattle.clause_base.specs.Literal.{positive, negative}
use Rattle.unroller.specs.Unrolls.{Unrolling, variables_of, base_of}
use Rattle.clause_form.specs.Clauses.{simplified, and_clauses, free_clauses, node_clauses, nodes_clauses, bit_clauses, word_clauses, words_clauses, cycle_clauses, cycles_clauses, form_clauses, literals_in}

-- a bit
abbrev zero_bit : Bits
zero_bit = record { width = 1; value = 0; at_least_one = omega arith; at_most_128 = omega arith; in_range = omega arith }

abbrev one_bit : Bits
one_bit = record { width = 1; value = 1; at_least_one = omega arith; at_most_128 = omega arith; in_range = omega arith }

-- an output that is to be 1, or 0
abbrev is_one : Checked
is_one = record { value = one_bit; mask = one_bit }

abbrev is_zero : Checked
is_zero = record { value = zero_bit; mask = one_bit }

-- two suspects with a place each
abbrev group : ℕ → Group
group place = record { kind = []; label = []; places = place ∷ [] }

-- n = a | b and y = ~n, each a suspect, in four cycles with a b y = 001, 011, 101, 110: what is computed for n is a constant
abbrev or_not : Unrolling
or_not = record {
  base = base_of (group 0 ∷ group 1 ∷ []) 2;
  each = 1;
  bits = record { place = 0; bit = 0 } ∷ record { place = 1; bit = 0 } ∷ [];
  definitions = Free 0 0 0 (Known false) ∷ Free 0 1 0 (Of 0 true) ∷ Free 1 0 0 (Known true) ∷ Free 1 1 0 (Of 2 true)
      ∷ Free 2 0 0 (Known true) ∷ Free 2 1 0 (Of 4 true) ∷ Free 3 0 0 (Known true) ∷ Free 3 1 0 (Of 6 true) ∷ [];
  ends = 2 ∷ 4 ∷ 6 ∷ 8 ∷ [];
  outputs = (Of 1 false ∷ []) ∷ (Of 3 false ∷ []) ∷ (Of 5 false ∷ []) ∷ (Of 7 false ∷ []) ∷ [];
  expected = is_one ∷ is_one ∷ is_one ∷ is_zero ∷ [];
  frees = (Of 0 false ∷ Of 1 false ∷ []) ∷ (Of 2 false ∷ Of 3 false ∷ []) ∷ (Of 4 false ∷ Of 5 false ∷ [])
      ∷ (Of 6 false ∷ Of 7 false ∷ []) ∷ [];
  firsts = 0 ∷ [];
}

thirteen_variables : variables_of or_not ≡ 13
thirteen_variables = refl

twenty_clauses : form_clauses or_not (group 0 ∷ group 1 ∷ []) 2
    ≡ (negative 1 ∷ positive 3 ∷ [])
    ∷ (negative 3 ∷ positive 4 ∷ [])
    ∷ (negative 2 ∷ positive 4 ∷ [])
    ∷ (negative 2 ∷ negative 3 ∷ positive 5 ∷ [])
    ∷ (negative 6 ∷ positive 1 ∷ [])
    ∷ (negative 7 ∷ negative 6 ∷ positive 2 ∷ [])
    ∷ (positive 7 ∷ positive 6 ∷ positive 2 ∷ [])
    ∷ (positive 7 ∷ [])
    ∷ (positive 8 ∷ positive 1 ∷ [])
    ∷ (negative 9 ∷ negative 8 ∷ positive 2 ∷ [])
    ∷ (positive 9 ∷ positive 8 ∷ positive 2 ∷ [])
    ∷ (positive 9 ∷ [])
    ∷ (positive 10 ∷ positive 1 ∷ [])
    ∷ (negative 11 ∷ negative 10 ∷ positive 2 ∷ [])
    ∷ (positive 11 ∷ positive 10 ∷ positive 2 ∷ [])
    ∷ (positive 11 ∷ [])
    ∷ (positive 12 ∷ positive 1 ∷ [])
    ∷ (negative 13 ∷ negative 12 ∷ positive 2 ∷ [])
    ∷ (positive 13 ∷ positive 12 ∷ positive 2 ∷ [])
    ∷ (negative 13 ∷ [])
    ∷ []
unfolding form_clauses cycles_clauses cycle_clauses nodes_clauses node_clauses and_clauses free_clauses words_clauses word_clauses bit_clauses simplified opposite
twenty_clauses = refl

-- y = 0 and no suspects, in a cycle in which 1 is expected
abbrev constant_output : Unrolling
constant_output = record {
  base = base_of [] 2;
  each = 1;
  bits = [];
  definitions = [];
  ends = 0 ∷ [];
  outputs = (Known false ∷ []) ∷ [];
  expected = is_one ∷ [];
  frees = [] ∷ [];
  firsts = 0 ∷ [];
}

no_variables : variables_of constant_output ≡ 0
no_variables = refl

one_empty_clause : form_clauses constant_output [] 2 ≡ [] ∷ []
unfolding form_clauses cycles_clauses cycle_clauses nodes_clauses node_clauses and_clauses free_clauses words_clauses word_clauses bit_clauses simplified opposite
one_empty_clause = refl

-- which counts for a literal
one_literal : literals_in ([] ∷ []) ≡ 1
unfolding literals_in
one_literal = refl
