-- A source has no more modules, ports and items than tokens, and no other tree.
use Rattle.std.proofs.Common.{◌≡◌, ℕ, suc, ◌+◌, ◌<◌, ◌≤◌, inl, inr, Bool, true, false, List, [], ◌∷◌, length, refl, ap, sym, ◌∙◌, subst, arith}
use Rattle.v_lexer.specs.Lexeme.{Lexeme}
use Rattle.v_syntax.specs.declared.declaration.Identifier.{Identifier}
use Rattle.v_lexer.specs.declared.types.terminal.Terminal.{Terminal}
use Rattle.v_lexer.specs.declared.types.terminal.Terminal.TheVariants as marks
use Rattle.v_tree.specs.Marks.{mark_at, same}
use Rattle.v_tree.specs.Reading.{Read}
use Rattle.v_tree.proofs.BindLemmas.{ok-one}
use Rattle.v_tree.proofs.PlaceLemmas.{marked_inside}
use Rattle.v_tree.proofs.SteadyLemmas.{not_by}
use Rattle.v_parts.proofs.NameLaws.{law_identifier}
use Rattle.v_syntax.specs.ModuleTree.{PlainPorts, PlainModule, no_ports, count_ports, parts_of}
use Rattle.v_parts.specs.Reading.{identifier_at}
use Rattle.v_parts.specs.Productions.{AreMore, AreListed, AreRun, IsIdentifier}
use Rattle.v_declarations.specs.Headers.{IsHeaderPorts, IsNextPort, is_reg}
use Rattle.v_declarations.specs.HeaderReading.{declared_port_at, next_port_at, header_parameters_at, header_ports_at}
use Rattle.v_parser.specs.Items.{IsItem}
use Rattle.v_parser.specs.ItemReading.{item_at}
use Rattle.v_parser.specs.Modules.{IsModule, AreModules, IsSource}
use Rattle.v_parser.specs.ModuleReading.{module_at}
use Rattle.v_parts.proofs.Laws.{Start, Law, ahead_of, later}
use Rattle.v_parts.proofs.TakingLaws.{TakingFrom}
use Rattle.v_declarations.proofs.HeaderLaws.{law_declared_port, taking_next_port, law_header_parameters, law_header_ports}
use Rattle.v_parser.proofs.ItemLaws.{taking_item}
use Rattle.v_parser.proofs.ModuleLaws.{taking_module, source_law}

-- where a part ends
ends : {A : Type 0} (t : List Lexeme) (a : ℕ) (o : Read A) (P : A → ℕ → Type 0) → Law 0 t t a o o P → (x : A) (b : ℕ) → P x b → (a ≤ b) × (b ≤ length t)
ends t a o P law x b p = ahead_of 0 t a o (x, b) (law.complete x b p) law.steady.ahead

-- parts up to a closing token are fewer than the tokens
run_few : {S A : Type 0} (t : List Lexeme) (d : ℕ) (last : Terminal) (r : S → ℕ → Read A) (next : S → A → S) (P : S → A → ℕ → ℕ → Type 0) → ((s : S) → TakingFrom 0 t t d (r s) (r s) (P s))
    → (s : S) (xs : List A) (a b : ℕ) → Start 0 t d a → AreRun t last P next s xs a b → a + length xs < b
run_few t d last r next P parts s [] a b st (is, e) = omega (arith, e)
run_few t d last r next P parts s (x ∷ xs) a b st (m, other, p, rest) =
    let part = parts s a st in
    let past = part.takes x m p in
    let end = ends t a (r s a) (λ y c. P s y a c) part.law x m p in
    let more = run_few t d last r next P parts (next s x) xs m b (later 0 t d a m st end.0 end.1) rest in
    omega (arith, past, more)

names_more : (t : List Lexeme) (xs : List Identifier) (a b : ℕ) → AreMore t (IsIdentifier t) xs a b → a + length xs ≤ b
names_more t [] a b (other, e) = omega (arith, e)
names_more t (x ∷ xs) a b (m, comma, (name, n, q, e), rest) =
    let end = q.2 in
    let same = e.1 in
    let more = names_more t xs m b rest in
    omega (arith, end, same, more)

names_few : (t : List Lexeme) (xs : List Identifier) (a b : ℕ) → AreListed t (IsIdentifier t) xs a b → a + length xs ≤ b
names_few t [] a b h = absurd h
names_few t (x ∷ xs) a b (m, (name, n, q, e), rest) =
    let end = q.2 in
    let same = e.1 in
    let more = names_more t xs m b rest in
    omega (arith, end, same, more)

-- reading goes on behind a token
behind : (t : List Lexeme) (d a : ℕ) (m : Terminal) → same m marks.Nothing ≡ false → mark_at t a ≡ m → Start 0 t d a → Start 0 t d (a + 1)
behind t d a m some is st =
    let here = marked_inside t a (λ gone. not_by m marks.Nothing some (sym is ∙ gone)) in
    later 0 t d a (a + 1) st (omega arith) (omega (arith, here))

nothing_few : (x : PlainPorts) (a b : ℕ) → x ≡ no_ports → a ≤ b → a + count_ports x ≤ b
nothing_few x a b e h = subst (λ y. a + count_ports y ≤ b) (sym e) (omega (arith, h))

ports_few : (t : List Lexeme) (d : ℕ) (x : PlainPorts) (a b : ℕ) → Start 0 t d a → IsHeaderPorts t d x a b → a + count_ports x ≤ b
ports_few t d x a b st (inr (other, (e, f))) = nothing_few x a b e (omega (arith, f))
ports_few t d x a b st (inl (opens, inl (close, (e, f)))) = nothing_few x a b e (omega (arith, f))
ports_few t d x a b st (inl (opens, inr (inl (first, m, p, (ports, n, (others, k, run, (e, f)), (is, end)))))) =
    let st1 = behind t d a marks.Open refl opens st in
    let from = ends t (a + 1) (declared_port_at t d (a + 1)) _ (law_declared_port 0 t t d (a + 1) st1) first m p in
    let more = run_few t d marks.Close (next_port_at t d) is_reg (IsNextPort t d) (taking_next_port 0 t t d) (is_reg false first) others m k (later 0 t d (a + 1) m st1 from.0 from.1) run in
    let ge = from.0 in
    let count : length ports ≡ suc (length others) = ap length e in
    subst (λ y. a + count_ports y ≤ b) (sym is) (omega (arith, ge, more, f, end, count))
ports_few t d x a b st (inl (opens, inr (inr (names, m, list, (close, (is, end)))))) =
    let some = names_few t names (a + 1) m list in
    subst (λ y. a + count_ports y ≤ b) (sym is) (omega (arith, some, end))

module_few : (t : List Lexeme) (d : ℕ) (x : PlainModule) (a b : ℕ) → Start 0 t d a → IsModule t d x a b → a + (1 + count_ports x.ports + length x.items) ≤ b
module_few t d x a b st (is, (name, m, q, (parameters, n, hp, (ports, k, hq, (semicolon, (items, l, run, (e, f))))))) =
    let st1 = behind t d a marks.Module refl is st in
    let named = ends t (a + 1) (identifier_at t (a + 1)) _ (law_identifier 0 t t d (a + 1) st1) name m q in
    let st2 = later 0 t d (a + 1) m st1 named.0 named.1 in
    let head = ends t m (header_parameters_at t d m) _ (law_header_parameters 0 t t d m st2) parameters n hp in
    let st3 = later 0 t d m n st2 head.0 head.1 in
    let end = ends t n (header_ports_at t d n) _ (law_header_ports 0 t t d n st3) ports k hq in
    let st4 = later 0 t d n k st3 end.0 end.1 in
    let some = ports_few t d ports n k st3 hq in
    let more = run_few t d marks.Endmodule (λ (v : Bool). item_at t d) (λ v y. v) (λ (v : Bool). IsItem t d) (λ v. taking_item 0 t t d) true items (k + 1) l (behind t d k marks.Semicolon refl semicolon st4) run in
    let ge1 = named.0 in
    let ge2 = head.0 in
    subst (λ (y : PlainModule). a + (1 + count_ports y.ports + length y.items) ≤ b) (sym e) (omega (arith, ge1, ge2, some, more, f))

modules_few : (t : List Lexeme) (xs : List PlainModule) (a : ℕ) → Start 0 t 256 a → AreModules t xs a → a + parts_of xs ≤ length t
modules_few t [] a st e = omega (arith, e)
modules_few t (x ∷ xs) a st (m, q, rest) =
    let one = module_few t 256 x a m st q in
    let end = ends t a (module_at t 256 a) _ (taking_module 0 t t 256 a st).law x m q in
    let more = modules_few t xs m (later 0 t 256 a m st end.0 end.1) rest in
    omega (arith, one, more)

pub few_parts : (t : List Lexeme) (s : List PlainModule) → IsSource t s → parts_of s ≤ length t
few_parts t s is =
    let few = modules_few t s 0 record { inside = omega arith; deep = omega arith; far = omega arith } is in
    omega (arith, few)

pub one_source : (t : List Lexeme) (s r : List PlainModule) → IsSource t s → IsSource t r → s ≡ r
one_source t s r is other =
    let law = source_law t t 0 (omega arith) in
    let e = sym (law.complete s (length t) (is, refl)) ∙ law.complete r (length t) (other, refl) in
    ap (λ (q : List PlainModule × ℕ). q.0) (ok-one (s, length t) (r, length t) e)
