-- The readers of items read what their productions have.
use Rattle.std.proofs.Common.{◌≡◌, ◌≢◌, ℕ, zero, suc, ◌+◌, ◌≤◌, ◌⊎◌, inl, inr, Bool, true, false, if◌then◌else◌, List, [], ◌∷◌, Some, sym, ap, subst, refl, arith}
use Rattle.v_lexer.specs.Lexeme.{Lexeme}
use Rattle.v_lexer.specs.declared.types.terminal.Terminal.{Terminal}
use Rattle.v_lexer.specs.declared.types.terminal.Terminal.TheVariants as marks
use Rattle.v_tree.specs.declared.fault.Fault.TheVariants.{Deep}
use Rattle.v_tree.specs.Marks.{mark_at, same}
use Rattle.v_tree.specs.Sites.{site}
use Rattle.v_syntax.specs.Tree.{Tree}
use Rattle.v_tree.specs.Faults.{no_place}
use Rattle.v_tree.proofs.BindLemmas.{bad}
use Rattle.v_parser.specs.declared.item_kinds.ItemKind.{ItemKind}
use Rattle.v_parser.specs.declared.item_kinds.ItemKind.TheVariants as kinds
use Rattle.v_parser.specs.ItemKinds.{item_kind}
use Rattle.v_syntax.specs.ItemTree.{PlainItem, PlainBlock, generate_item, loop_item, if_item, if_else_item, single, several, items_of}
use Rattle.v_parts.specs.Reading.{optional_at}
use Rattle.v_parts.specs.Productions.{IsOptional}
use Rattle.v_statements.specs.Statements.{IsLabel, IsInParens, IsHead}
use Rattle.v_statements.specs.StatementReading.{label_at, head_at, in_parens_at}
use Rattle.v_declarations.specs.Declarations.{IsDeclaration}
use Rattle.v_syntax.specs.declared.item.GateKind.{GateKind}
use Rattle.v_declarations.specs.Structures.{IsStructure, gate_kind}
use Rattle.v_statements.specs.Procedures.{IsProcedure}
use Rattle.v_parser.specs.Items.{NestedItem, AreItemsUpTo, IsGenerate, IsSeveral, IsSingle, IsBlockItem, IsLoopItem, IsElseItem, IsIfItem, IsGenerated, IsItemWith, IsItem}
use Rattle.v_parser.specs.ItemReading.{ItemReader, items_at, generate_at, several_at, single_at, block_item_at, loop_item_at, else_item_at, if_item_at, generated_at, item_of_kind, item_with, item_at}
use Rattle.v_parts.proofs.Laws.{Start, Law, LawFrom, later, law_as, law_before, law_bind, law_expect, law_no_place, law_node, law_choice}
use Rattle.v_parts.proofs.TakingLaws.{Taking, TakingFrom, taking_open, taking_as, taking_or, taking_kind, Tells, tells_one, tells_more}
use Rattle.v_parts.proofs.RunLaws.{law_run}
use Rattle.v_statements.proofs.StatementLaws.{law_label_if, law_in_parens, law_head}
use Rattle.v_declarations.proofs.DeclarationLaws.{taking_declaration, declaration_tells}
use Rattle.v_declarations.proofs.StructureLaws.{taking_structure, structure_tells}
use Rattle.v_statements.proofs.ProcedureLaws.{taking_procedure, procedure_tells}

-- items up to a token of the mark `last`, behind a token
pub law_items : (base : ℕ) (t u : List Lexeme) (d : ℕ) (last : Terminal) → same last marks.Nothing ≡ false → (r s : ItemReader) (P : NestedItem) → TakingFrom base t u d r s P → (a : ℕ) → 1 ≤ a → Start base t d a
    → Law base t u a (items_at t last r a) (items_at u last s a) (λ xs b. AreItemsUpTo t last P xs a b)
unfolding items_at
law_items base t u d last some r s P under a behind st =
    law_run base t u d last some (λ (v : Bool). r) (λ (v : Bool). s) (λ v x. v) (λ (v : Bool). P) (λ v. under) true a behind st

-- items where less nesting is left
abbrev ItemsWithin : ℕ → List Lexeme → List Lexeme → ℕ → ItemReader → ItemReader → NestedItem → Type 0
ItemsWithin base t u d r s P = (n : ℕ) → n + 1 ≡ d → TakingFrom base t u n r s P

law_generate : (base : ℕ) (t u : List Lexeme) (d : ℕ) (r s : ItemReader) (P : NestedItem) → ItemsWithin base t u d r s P → (a : ℕ) → Start base t d a → mark_at t a ≡ marks.Generate
    → Taking base t u a (generate_at t d r a) (generate_at u d s a) (λ x b. IsGenerate t d P x a b)
unfolding generate_at
law_generate base t u d r s P under a st is =
    taking_open base t u d a st marks.Generate refl refl is _ _ _ (λ n low st2.
    law_bind base t u n (a + 1) st2 (items_at t marks.Endgenerate r (a + 1)) (items_at u marks.Endgenerate s (a + 1)) _ _ (λ xs b. AreItemsUpTo t marks.Endgenerate P xs (a + 1) b) _
    (law_items base t u n marks.Endgenerate refl r s P (under n low) (a + 1) (omega arith) st2) (λ xs m q ge st3.
    law_node base t u n a m st3 (omega (arith, ge)) (λ z. generate_item z (items_of xs))))

law_several : (base : ℕ) (t u : List Lexeme) (d : ℕ) (r s : ItemReader) (P : NestedItem) → TakingFrom base t u d r s P → LawFrom base t u d (several_at t r) (several_at u s) (IsSeveral t P)
unfolding several_at
law_several base t u d r s P under a st =
    law_expect base t u d a st marks.Begin refl _ _ _ (λ is st2.
    law_bind base t u d (a + 1) st2 (optional_at t marks.Colon (label_at t) (a + 1)) (optional_at u marks.Colon (label_at u) (a + 1)) _ _ (λ x b. IsOptional t marks.Colon (IsLabel t) x (a + 1) b) _ (law_label_if base t u d (a + 1) st2) (λ l m q ge st3.
    law_bind base t u d m st3 (items_at t marks.End r m) (items_at u marks.End s m) _ _ (λ xs b. AreItemsUpTo t marks.End P xs m b) _
    (law_items base t u d marks.End refl r s P under m (omega (arith, ge)) st3) (λ xs c q2 ge2 st4.
    law_node base t u d a c st4 (omega (arith, ge, ge2)) (λ z. several z l (items_of xs)))))

law_single : (base : ℕ) (t u : List Lexeme) (d : ℕ) (r s : ItemReader) (P : NestedItem) → TakingFrom base t u d r s P → LawFrom base t u d (single_at t r) (single_at u s) (IsSingle t P)
unfolding single_at
law_single base t u d r s P under a st =
    law_bind base t u d a st (r a) (s a) _ _ (λ x b. P x a b) _ (under a st).law (λ x m q ge st2.
    law_node base t u d a m st2 ge (λ z. single z x))

law_block_item : (base : ℕ) (t u : List Lexeme) (d : ℕ) (r s : ItemReader) (P : NestedItem) → TakingFrom base t u d r s P → LawFrom base t u d (block_item_at t r) (block_item_at u s) (IsBlockItem t P)
unfolding block_item_at
law_block_item base t u d r s P under a st =
    law_choice base t u a marks.Begin refl _ _ _ _ (λ x b. IsSeveral t P x a b) (λ x b. (mark_at t a ≢ marks.Begin) × IsSingle t P x a b)
    (λ is here. law_several base t u d r s P under a st)
    (λ other. law_as base t u a _ _ _ _ (law_single base t u d r s P under a st) (λ x b h. (other, h)) (λ x b h. h.1))
    (λ x b h. h.0) (λ x b h. h.0)

law_loop_item : (base : ℕ) (t u : List Lexeme) (d : ℕ) (r s : ItemReader) (P : NestedItem) → ItemsWithin base t u d r s P → (a : ℕ) → Start base t d a → mark_at t a ≡ marks.For
    → Taking base t u a (loop_item_at t d r a) (loop_item_at u d s a) (λ x b. IsLoopItem t d P x a b)
unfolding loop_item_at
law_loop_item base t u d r s P under a st is =
    taking_open base t u d a st marks.For refl refl is _ _ _ (λ n low st2.
    law_bind base t u n (a + 1) st2 (head_at t n (a + 1)) (head_at u n (a + 1)) _ _ (λ x b. IsHead t n x (a + 1) b) _ (law_head base t u n (a + 1) st2) (λ h m q ge st3.
    law_bind base t u n m st3 (block_item_at t r m) (block_item_at u s m) _ _ (λ x b. IsBlockItem t P x m b) _ (law_block_item base t u n r s P (under n low) m st3) (λ y k q2 ge2 st4.
    law_node base t u n a k st4 (omega (arith, ge, ge2)) (λ z. loop_item z h y))))

law_else_item : (base : ℕ) (t u : List Lexeme) (d : ℕ) (r s : ItemReader) (P : NestedItem) → TakingFrom base t u d r s P → (from : ℕ) (condition : Tree) (first : PlainBlock) (a : ℕ) → from ≤ a → Start base t d a
    → Law base t u a (else_item_at t r from condition first a) (else_item_at u s from condition first a) (λ x b. IsElseItem t P from condition first x a b)
unfolding else_item_at
law_else_item base t u d r s P under from condition first a before st =
    law_choice base t u a marks.Else refl _ _ _ _
    (λ x b. (mark_at t a ≡ marks.Else) × ((other : PlainBlock) × (n : ℕ) × IsBlockItem t P other (a + 1) n × ((x ≡ if_else_item (site t from n) condition first other) × (b ≡ n))))
    (λ x b. (mark_at t a ≢ marks.Else) × ((x ≡ if_item (site t from a) condition first) × (b ≡ a)))
    (λ is here.
    let next = later base t d a (a + 1) st (omega arith) (omega (arith, here)) in
    law_as base t u a _ _ _ _ (law_before base t u a (a + 1) _ _ _ (omega arith)
    (law_bind base t u d (a + 1) next (block_item_at t r (a + 1)) (block_item_at u s (a + 1)) _ _ (λ y b. IsBlockItem t P y (a + 1) b) (λ y n x b. (x ≡ if_else_item (site t from n) condition first y) × (b ≡ n))
    (law_block_item base t u d r s P under (a + 1) next) (λ y n q ge st2.
    law_node base t u d from n st2 (omega (arith, before, ge)) (λ z. if_else_item z condition first y)))) (λ x b h. (is, h)) (λ x b h. h.1))
    (λ other. law_as base t u a _ _ _ _ (law_node base t u d from a st before (λ z. if_item z condition first)) (λ x b h. (other, h)) (λ x b h. h.1))
    (λ x b h. h.0) (λ x b h. h.0)

law_if_item : (base : ℕ) (t u : List Lexeme) (d : ℕ) (r s : ItemReader) (P : NestedItem) → ItemsWithin base t u d r s P → (a : ℕ) → Start base t d a → mark_at t a ≡ marks.If
    → Taking base t u a (if_item_at t d r a) (if_item_at u d s a) (λ x b. IsIfItem t d P x a b)
unfolding if_item_at
law_if_item base t u d r s P under a st is =
    taking_open base t u d a st marks.If refl refl is _ _ _ (λ n low st2.
    law_bind base t u n (a + 1) st2 (in_parens_at t n (a + 1)) (in_parens_at u n (a + 1)) _ _ (λ x b. IsInParens t n x (a + 1) b) _ (law_in_parens base t u n (a + 1) st2) (λ c m q ge st3.
    law_bind base t u n m st3 (block_item_at t r m) (block_item_at u s m) _ _ (λ x b. IsBlockItem t P x m b) _ (law_block_item base t u n r s P (under n low) m st3) (λ x k q2 ge2 st4.
    law_else_item base t u n r s P (under n low) a c x k (omega (arith, ge, ge2)) st4)))

-- a condition, where one stands
taking_last : (base : ℕ) (t u : List Lexeme) (d : ℕ) (r s : ItemReader) (P : NestedItem) → ItemsWithin base t u d r s P → (a : ℕ) → Start base t d a
    → Taking base t u a (if same (mark_at t a) marks.If then if_item_at t d r a else bad (no_place t a)) (if same (mark_at u a) marks.If then if_item_at u d s a else bad (no_place u a)) (λ x b. IsIfItem t d P x a b)
taking_last base t u d r s P under a st =
    taking_as base t u a _ _ _ _
    (taking_or base t u a marks.If [] refl refl _ _ _ _ (λ x b. IsIfItem t d P x a b) (λ x b. ⊥) (λ x b h. h.2) (λ x b h. absurd h) (λ is here. law_if_item base t u d r s P under a st is)
    (λ other. record { law = law_no_place base t u a st.inside; takes = λ x b h. absurd h }))
    (λ x b h. elim h [ inl h ↦ h | inr h ↦ absurd h ]) (λ x b h. inl h)

generated_tells : (t : List Lexeme) (d : ℕ) (P : NestedItem) (a : ℕ) → Tells t a (marks.For ∷ marks.If ∷ []) (λ x b. IsLoopItem t d P x a b ⊎ IsIfItem t d P x a b)
generated_tells t d P a = tells_more t a marks.For (marks.If ∷ []) (λ x b. IsLoopItem t d P x a b) (λ x b. IsIfItem t d P x a b) (λ x b h. h.2) (tells_one t a marks.If (λ x b. IsIfItem t d P x a b) (λ x b h. h.2))

taking_generated : (base : ℕ) (t u : List Lexeme) (d : ℕ) (r s : ItemReader) (P : NestedItem) → ItemsWithin base t u d r s P → TakingFrom base t u d (generated_at t d r) (generated_at u d s) (IsGenerated t d P)
unfolding generated_at
taking_generated base t u d r s P under a st =
    taking_or base t u a marks.Generate (marks.For ∷ marks.If ∷ []) refl refl _ _ _ _ (λ x b. IsGenerate t d P x a b) _ (λ x b h. h.2) (generated_tells t d P a) (λ is here. law_generate base t u d r s P under a st is) (λ n1.
    taking_or base t u a marks.For (marks.If ∷ []) refl refl _ _ _ _ (λ x b. IsLoopItem t d P x a b) _ (λ x b h. h.2) (tells_one t a marks.If (λ x b. IsIfItem t d P x a b) (λ x b h. h.2)) (λ is here. law_loop_item base t u d r s P under a st is) (λ n2.
    taking_last base t u d r s P under a st))

-- the items of a chapter
abbrev IsItemOf : List Lexeme → ℕ → NestedItem → ℕ → ItemKind → PlainItem → ℕ → Type 0
IsItemOf t d P a kinds.Declaration x b = IsDeclaration t d x a b
IsItemOf t d P a kinds.Structure x b = IsStructure t d x a b
IsItemOf t d P a kinds.Procedure x b = IsProcedure t d x a b
IsItemOf t d P a kinds.Generated x b = IsGenerated t d P x a b
IsItemOf t d P a kinds.Nothing x b = ⊥

of_chapter : (t : List Lexeme) (d : ℕ) (P : NestedItem) (a : ℕ) (k : ItemKind) (x : PlainItem) (b : ℕ) → IsItemOf t d P a k x b → IsItemWith t d P x a b
of_chapter t d P a kinds.Declaration x b h = inl h
of_chapter t d P a kinds.Structure x b h = inr (inl h)
of_chapter t d P a kinds.Procedure x b h = inr (inr (inl h))
of_chapter t d P a kinds.Generated x b h = inr (inr (inr h))
of_chapter t d P a kinds.Nothing x b h = absurd h

-- a generate region, loop or condition begins with one of three words
generated_kind : (t : List Lexeme) (d : ℕ) (P : NestedItem) (a : ℕ) (x : PlainItem) (b : ℕ) → IsGenerated t d P x a b → item_kind (mark_at t a) ≡ kinds.Generated
generated_kind t d P a x b h = elim h [ inl h ↦ ap item_kind h.2 | inr h ↦ elim h [ inl h ↦ ap item_kind h.2 | inr h ↦ ap item_kind h.2 ] ]

gate_is_structure : (m : Terminal) (k : GateKind) → gate_kind m ≡ Some k → item_kind m ≡ kinds.Structure
gate_is_structure marks.And k e = refl
gate_is_structure marks.Or k e = refl
gate_is_structure marks.Nand k e = refl
gate_is_structure marks.Nor k e = refl
gate_is_structure marks.Xor k e = refl
gate_is_structure marks.Xnor k e = refl
gate_is_structure marks.Buf k e = refl
gate_is_structure marks.Not k e = refl
gate_is_structure _ k e = cc

to_chapter : (t : List Lexeme) (d : ℕ) (P : NestedItem) (a : ℕ) (x : PlainItem) (b : ℕ) → IsItemWith t d P x a b → IsItemOf t d P a (item_kind (mark_at t a)) x b
to_chapter t d P a x b h =
    let of = λ (k : ItemKind) (e : item_kind (mark_at t a) ≡ k) (q : IsItemOf t d P a k x b). subst (λ v. IsItemOf t d P a v x b) (sym e) q in
    elim h [
      | inl h ↦ of kinds.Declaration (declaration_tells item_kind kinds.Declaration refl refl refl refl refl refl refl refl t d a x b h) h
      | inr h ↦ elim h [
        | inl h ↦ of kinds.Structure (structure_tells item_kind kinds.Structure refl gate_is_structure refl t d a x b h) h
        | inr h ↦ elim h [
          | inl h ↦ of kinds.Procedure (procedure_tells item_kind kinds.Procedure refl refl t d a x b h) h
          | inr h ↦ of kinds.Generated (generated_kind t d P a x b h) h
        ]
      ]
    ]

by_kind : (base : ℕ) (t u : List Lexeme) (d : ℕ) (r s : ItemReader) (P : NestedItem) → ItemsWithin base t u d r s P → (a : ℕ) → Start base t d a → (k : ItemKind)
    → Taking base t u a (item_of_kind t d r a k) (item_of_kind u d s a k) (IsItemOf t d P a k)
by_kind base t u d r s P under a st kinds.Declaration = taking_declaration base t u d a st
by_kind base t u d r s P under a st kinds.Structure = taking_structure base t u d a st
by_kind base t u d r s P under a st kinds.Procedure = taking_procedure base t u d a st
by_kind base t u d r s P under a st kinds.Generated = taking_generated base t u d r s P under a st
by_kind base t u d r s P under a st kinds.Nothing = record { law = law_no_place base t u a st.inside; takes = λ x b h. absurd h }

taking_item_with : (base : ℕ) (t u : List Lexeme) (d : ℕ) (r s : ItemReader) (P : NestedItem) → ItemsWithin base t u d r s P → TakingFrom base t u d (item_with t d r) (item_with u d s) (IsItemWith t d P)
unfolding item_with
taking_item_with base t u d r s P under a st =
    taking_kind base t u a item_kind (item_of_kind t d r a) (item_of_kind u d s a) (IsItemOf t d P a) (λ x b. IsItemWith t d P x a b) (λ k e. by_kind base t u d r s P under a st k) (of_chapter t d P a) (to_chapter t d P a)

pub taking_item : (base : ℕ) (t u : List Lexeme) (d : ℕ) → TakingFrom base t u d (item_at t d) (item_at u d) (IsItem t d)
unfolding item_at
taking_item base t u zero = taking_item_with base t u zero (λ a. bad (Deep a)) (λ a. bad (Deep a)) (λ x a b. ⊥) (λ n e. absurd (omega (arith, e)))
taking_item base t u (suc d) = taking_item_with base t u (suc d) (item_at t d) (item_at u d) (IsItem t d)
    (λ n e. let one : d ≡ n = omega (arith, e) in subst (λ k. TakingFrom base t u k (item_at t d) (item_at u d) (IsItem t d)) one (taking_item base t u d))
