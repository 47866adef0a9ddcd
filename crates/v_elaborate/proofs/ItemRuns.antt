-- Two runs over the items of a module, the second with another number of levels below: a relation that each step keeps holds at
-- the end.
use Rattle.std.proofs.Common.{◌≡◌, ℕ, Bool, true, false, List, [], ◌∷◌, refl, sym, subst}
use Rattle.std.specs.Prelude.{⊤, Option, Some, None, Result, Ok, Err}
use Rattle.loc_base.specs.declared.span.Span.{Span}
use Rattle.v_syntax.specs.declared.site.Site.{Site}
use Rattle.v_syntax.specs.declared.declaration.Identifier.{Identifier}
use Rattle.v_syntax.specs.ItemTree.{PlainSensitivity, PlainInstance, PlainItem, port_item, net_item, integer_item, genvar_item, parameter_item, assign_item, gate_item, always_item, initial_item, instance_item, generate_item, loop_item, if_item, if_else_item, PlainBlock, single, several, Items, no_items, more_items}
use Rattle.v_syntax.specs.StatementTree.{PlainStatement}
use Rattle.v_syntax.specs.ModuleTree.{PlainModule}
use Rattle.v_sizes.specs.declared.meaning.Const.{Const}
use Rattle.v_hierarchy.specs.declared.error.ElabErr.{ElabErr}
use Rattle.v_hierarchy.specs.declared.left.Left.{Left}
use Rattle.v_hierarchy.specs.Constants.{bounds_if}
use Rattle.v_hierarchy.specs.Steps.{◌>>=◌, each, placed}
use Rattle.v_hierarchy.specs.Names.{Entry, integer, genvar, look_in}
use Rattle.v_hierarchy.specs.Parameters.{Given, kind_at, given_at}
use Rattle.v_hierarchy.specs.Paths.{below, block_part, turn_part}
use Rattle.v_hierarchy.specs.Constants as whole
use Rattle.v_hierarchy.specs.Unrolled.{Steps, unrolled, at_turn, holds_at, begun, stepped, turns, most_turns}
use Rattle.v_hierarchy.specs.Items.{Child, Copied, written, always, child, inner, turn, Block, scope, Copies, Place, Met, with_names, with_copy, ported, direction_of, net_of, named_as, parameter_of, connections_fit, not_deeper, instance_of, unit_of, turn_met, loop_genvar, within, begins, ends, chosen, block_of, turn_of, item, items, body_of}
use Rattle.v_elaborate.proofs.Runs.{both, apart, ended, each-runs, turns-run}

-- a place with another number of levels below it
abbrev pub leveled : Place → ℕ → Place
leveled p levels = record { units = p.units; levels = levels; path = p.path; outer = p.outer; header = p.header }

abbrev pub met_of : List Entry → Copies → Left → Met
met_of names copies left = record { names = names; copies = copies; left = left }

-- a relation that each step keeps; it may say of each scope something of its own, and `T` holds where a turn is counted and not
-- yet met
pub record Kept (K : Type 0) (R T : K → Met → Met → Type 0) (one other : ℕ) : Type 0 where
  pub names : (k : K) (m n : Met) → R k m n → m.names ≡ n.names
  pub declares : (k : K) (m n : Met) (more : List Entry) → R k m n → R k (with_names m more) (with_names n more)
  pub writes : (k : K) (m n : Met) (x : PlainItem) → R k m n → R k (with_copy m (written x)) (with_copy n (written x))
  pub unrolls : (k : K) (m n : Met) (s : Site) (events : PlainSensitivity) (frames : List (List Entry)) (body : PlainStatement) (x y : Steps × Left)
      → R k m n → unrolled frames body m.left ≡ Ok x → unrolled frames body n.left ≡ Ok y
      → R k (with_copy (met_of m.names m.copies x.1) (always s events x.0)) (with_copy (met_of n.names n.copies y.1) (always s events y.0))
  pub places : (k : K) (m n : Met) (s : Site) (c : Child) (span : Span) (u v : ⊤) (l r : Left) → R k m n
      → not_deeper one span ≡ Ok u → not_deeper other span ≡ Ok v → placed span m.left ≡ Ok l → placed span n.left ≡ Ok r
      → R k (with_copy (met_of m.names m.copies l) (child s c)) (with_copy (met_of n.names n.copies r) (child s c))
  pub turns : (k : K) (m n : Met) (span : Span) (a b : Met) → R k m n → turn_met span m ≡ Ok a → turn_met span n ≡ Ok b → T k a b
  pub inside : (k : K) (m n : Met) → R k m n → K
  pub scope_begins : (k : K) (m n : Met) (holds : R k m n) → R (inside k m n holds) (begins [] m.left) (begins [] n.left)
  pub scope_ends : (k : K) (m n : Met) (holds : R k m n) (x y : Met) → R (inside k m n holds) x y → (path : List ℕ)
      → R k (ends m x (inner (scope path x.names x.copies))) (ends n y (inner (scope path y.names y.copies)))
  pub turn_inside : (k : K) (m n : Met) → T k m n → K
  pub turn_begins : (k : K) (m n : Met) (holds : T k m n) → R (turn_inside k m n holds) (begins [] m.left) (begins [] n.left)
  pub turn_ends : (k : K) (m n : Met) (holds : T k m n) (x y : Met) → R (turn_inside k m n holds) x y → (path : List ℕ) (variable : Identifier) (value : Const)
      → R k (ends m x (turn variable value (scope path x.names x.copies))) (ends n y (turn variable value (scope path y.names y.copies)))

-- a loop from its first value on
abbrev generate_end : ℕ → Span → (Const → Met → Result Met ElabErr) → (Const → Result (Const × Bool) ElabErr) → Met → Const × Bool → Result Met ElabErr
generate_end most span body next met first = turns most span (turn_met span) body next first met

module _ (K : Type 0) (R T : K → Met → Met → Type 0) (one other : ℕ) (keeps : Kept K R T one other) where
  -- both with the names of the first
  renamed : (k : K) (f g : Met → Result Met ElabErr)
      → ((ns : List Entry) (c : Copies) (l : Left) (c' : Copies) (l' : Left) (a b : Met) → R k (met_of ns c l) (met_of ns c' l')
      → f (met_of ns c l) ≡ Ok a → g (met_of ns c' l') ≡ Ok b → R k a b)
      → (m n a b : Met) → R k m n → f m ≡ Ok a → g n ≡ Ok b → R k a b
  renamed k f g alike m n a b holds first second =
      let same = sym (keeps.names k m n holds) in
      alike m.names m.copies m.left n.copies n.left a b
      (subst (λ names. R k m (met_of names n.copies n.left)) same holds) first
      (subst (λ names. g (met_of names n.copies n.left) ≡ Ok b) same second)

  instance-runs : (p : Place) (s : Site) (u : PlainModule) (values : List Given) (k : K) (i : PlainInstance) (m n a b : Met) → R k m n
      → instance_of (leveled p one) s u values i m ≡ Ok a → instance_of (leveled p other) s u values i n ≡ Ok b → R k a b
  instance-runs p s u values k i m n a b holds first second =
      apart (not_deeper one i.name.site.span) (not_deeper other i.name.site.span) _ _ a b (R k a b) first second λ v w deep deep' first second.
      apart (placed i.name.site.span m.left) (placed i.name.site.span n.left) _ _ a b (R k a b) first second λ l r place place' first second.
      both (connections_fit i.site.span u i.connections) _ _ a b (R k a b) first second λ _ first second.
      let c : Child = record { «module» = u; values = values; path = below p.path i.name.name; connections = i.connections } in
      ended (R k) (with_copy (met_of m.names m.copies l) (child s c)) (with_copy (met_of n.names n.copies r) (child s c)) a b first second
      (keeps.places k m n s c i.name.site.span v w l r holds deep deep' place place')

  -- a scope of its own
  encloses-runs : (k : K) (f g : Met → Result Met ElabErr) (path : List ℕ)
      → ((k' : K) (m n a b : Met) → R k' m n → f m ≡ Ok a → g n ≡ Ok b → R k' a b)
      → (m n a b : Met) → R k m n
      → f (begins [] m.left) >>= (λ x. Ok (ends m x (inner (scope path x.names x.copies)))) ≡ Ok a
      → g (begins [] n.left) >>= (λ x. Ok (ends n x (inner (scope path x.names x.copies)))) ≡ Ok b → R k a b
  encloses-runs k f g path run m n a b holds first second =
      apart (f (begins [] m.left)) (g (begins [] n.left)) _ _ a b (R k a b) first second λ x y ran ran' first second.
      ended (R k) (ends m x (inner (scope path x.names x.copies))) (ends n y (inner (scope path y.names y.copies))) a b first second
      (keeps.scope_ends k m n holds x y (run (keeps.inside k m n holds) (begins [] m.left) (begins [] n.left) x y (keeps.scope_begins k m n holds) ran ran') path)

  -- a turn
  turn-runs : (k : K) (f g : Met → Result Met ElabErr) (path : List ℕ) (variable : Identifier) (value : Const)
      → ((k' : K) (m n a b : Met) → R k' m n → f m ≡ Ok a → g n ≡ Ok b → R k' a b)
      → (m n a b : Met) → T k m n
      → f (begins [] m.left) >>= (λ x. Ok (ends m x (turn variable value (scope path x.names x.copies)))) ≡ Ok a
      → g (begins [] n.left) >>= (λ x. Ok (ends n x (turn variable value (scope path x.names x.copies)))) ≡ Ok b → R k a b
  turn-runs k f g path variable value run m n a b holds first second =
      apart (f (begins [] m.left)) (g (begins [] n.left)) _ _ a b (R k a b) first second λ x y ran ran' first second.
      ended (R k) (ends m x (turn variable value (scope path x.names x.copies))) (ends n y (turn variable value (scope path y.names y.copies))) a b first second
      (keeps.turn_ends k m n holds x y
      (run (keeps.turn_inside k m n holds) (begins [] m.left) (begins [] n.left) x y (keeps.turn_begins k m n holds) ran ran') path variable value)

  chosen-runs : (k : K) (holds : Bool) (f f' g g' : Met → Result Met ElabErr) (m n a b : Met)
      → (f m ≡ Ok a → g n ≡ Ok b → R k a b) → (f' m ≡ Ok a → g' n ≡ Ok b → R k a b)
      → chosen holds f f' m ≡ Ok a → chosen holds g g' n ≡ Ok b → R k a b
  chosen-runs k true f f' g g' m n a b one other first second = one first second
  chosen-runs k false f f' g g' m n a b one other first second = other first second

  generate-runs : (k : K) (most : ℕ) (span : Span) (f g : Const → Met → Result Met ElabErr) (next : Const → Result (Const × Bool) ElabErr) (begins : Const × Bool)
      → ((value : Const) (m n a b : Met) → T k m n → f value m ≡ Ok a → g value n ≡ Ok b → R k a b)
      → (m n a b : Met) → R k m n → generate_end most span f next m begins ≡ Ok a → generate_end most span g next n begins ≡ Ok b → R k a b
  generate-runs k most span f g next begins body m n a b holds first second =
      turns-run (R k) (T k) span (turn_met span) f g next (λ m n a b holds first second. keeps.turns k m n span a b holds first second) body
      most begins.0 begins.1 m n a b holds first second

  mutual
    item-alike : (x : PlainItem) (p : Place) (k : K) (ns : List Entry) (c : Copies) (l : Left) (c' : Copies) (l' : Left) (a b : Met)
        → R k (met_of ns c l) (met_of ns c' l')
        → item (leveled p one) x (met_of ns c l) ≡ Ok a → item (leveled p other) x (met_of ns c' l') ≡ Ok b → R k a b
    item-alike (port_item _ direction kind signed range names) p k ns c l c' l' a b holds first second =
        both (bounds_if (look_in (ns ∷ p.outer)) range) _ _ a b (R k a b) first second λ bs first second.
        both (each (direction_of (ported p) (record { direction = Some direction; kind = kind; signed = signed; bounds = bs })) names ns) _ _ a b (R k a b) first second λ more first second.
        ended (R k) _ _ a b first second (keeps.declares k (met_of ns c l) (met_of ns c' l') more holds)
    item-alike (net_item s kind signed range delay names) p k ns c l c' l' a b holds first second =
        both (bounds_if (look_in (ns ∷ p.outer)) range) _ _ a b (R k a b) first second λ bs first second.
        both (each (net_of (record { direction = None; kind = Some kind; signed = signed; bounds = bs })) names ns) _ _ a b (R k a b) first second λ more first second.
        ended (R k) _ _ a b first second
        (keeps.writes k (met_of more c l) (met_of more c' l') (net_item s kind signed range delay names) (keeps.declares k (met_of ns c l) (met_of ns c' l') more holds))
    item-alike (integer_item s names) p k ns c l c' l' a b holds first second =
        both (each (named_as integer) names ns) _ _ a b (R k a b) first second λ more first second.
        ended (R k) _ _ a b first second
        (keeps.writes k (met_of more c l) (met_of more c' l') (integer_item s names) (keeps.declares k (met_of ns c l) (met_of ns c' l') more holds))
    item-alike (genvar_item _ names) p k ns c l c' l' a b holds first second =
        both (each (named_as genvar) names ns) _ _ a b (R k a b) first second λ more first second.
        ended (R k) _ _ a b first second (keeps.declares k (met_of ns c l) (met_of ns c' l') more holds)
    item-alike (parameter_item _ own type_of values) p k ns c l c' l' a b holds first second =
        both (kind_at (look_in (ns ∷ p.outer)) type_of) _ _ a b (R k a b) first second λ kind first second.
        both (each (parameter_of (leveled p one) own kind) values ns) _ _ a b (R k a b) first second λ more first second.
        ended (R k) _ _ a b first second (keeps.declares k (met_of ns c l) (met_of ns c' l') more holds)
    item-alike (assign_item s delay assignments) p k ns c l c' l' a b holds first second =
        ended (R k) _ _ a b first second (keeps.writes k (met_of ns c l) (met_of ns c' l') (assign_item s delay assignments) holds)
    item-alike (gate_item s kind delay gates) p k ns c l c' l' a b holds first second =
        ended (R k) _ _ a b first second (keeps.writes k (met_of ns c l) (met_of ns c' l') (gate_item s kind delay gates) holds)
    item-alike (always_item s events body) p k ns c l c' l' a b holds first second =
        apart (unrolled (ns ∷ p.outer) body l) (unrolled (ns ∷ p.outer) body l') _ _ a b (R k a b) first second λ x y ran ran' first second.
        ended (R k) _ _ a b first second (keeps.unrolls k (met_of ns c l) (met_of ns c' l') s events (ns ∷ p.outer) body x y holds ran ran')
    item-alike (initial_item s body) p k ns c l c' l' a b holds first second =
        ended (R k) _ _ a b first second (keeps.writes k (met_of ns c l) (met_of ns c' l') (initial_item s body) holds)
    item-alike (instance_item s name parameters instances) p k ns c l c' l' a b holds first second =
        both (unit_of p name) _ _ a b (R k a b) first second λ u first second.
        both (given_at (look_in (ns ∷ p.outer)) u parameters) _ _ a b (R k a b) first second λ values first second.
        each-runs (R k) (instance_of (leveled p one) s u values) (instance_of (leveled p other) s u values) (instance-runs p s u values k) instances
        (met_of ns c l) (met_of ns c' l') a b holds first second
    item-alike (generate_item _ list) p k ns c l c' l' a b holds first second = items-alike list p k ns c l c' l' a b holds first second
    item-alike (loop_item s head body) p k ns c l c' l' a b holds first second =
        both (loop_genvar (ns ∷ p.outer) head.variable) _ _ a b (R k a b) first second λ _ first second.
        both (begun (ns ∷ p.outer) head)
        (generate_end most_turns s.span (turn_of (λ own. body_of own body) (leveled p one) head.variable body (ns ∷ p.outer)) (stepped (ns ∷ p.outer) head) (met_of ns c l))
        (generate_end most_turns s.span (turn_of (λ own. body_of own body) (leveled p other) head.variable body (ns ∷ p.outer)) (stepped (ns ∷ p.outer) head) (met_of ns c' l'))
        a b (R k a b) first second λ begins first second.
        generate-runs k most_turns s.span
        (turn_of (λ own. body_of own body) (leveled p one) head.variable body (ns ∷ p.outer))
        (turn_of (λ own. body_of own body) (leveled p other) head.variable body (ns ∷ p.outer))
        (stepped (ns ∷ p.outer) head) begins
        (λ value m n a b holds first second.
        let own = within p (turn_part body (whole.integer value)) (at_turn head.variable value (ns ∷ p.outer)) in
        turn-runs k (body_of (leveled own one) body) (body_of (leveled own other) body) own.path head.variable value
        (λ k' m n a b holds first second.
        renamed k' (body_of (leveled own one) body) (body_of (leveled own other) body)
        (λ ns c l c' l' a b holds first second. body-alike body own k' ns c l c' l' a b holds first second) m n a b holds first second)
        m n a b holds first second)
        (met_of ns c l) (met_of ns c' l') a b holds first second
    item-alike (if_item _ condition on_true) p k ns c l c' l' a b holds first second =
        both (holds_at (ns ∷ p.outer) condition) _ _ a b (R k a b) first second λ chooses first second.
        let own = within p (block_part on_true) (ns ∷ p.outer) in
        chosen-runs k chooses (block_of (λ own. body_of own on_true) (leveled p one) on_true) (λ same. Ok same)
        (block_of (λ own. body_of own on_true) (leveled p other) on_true) (λ same. Ok same) (met_of ns c l) (met_of ns c' l') a b
        (encloses-runs k (body_of (leveled own one) on_true) (body_of (leveled own other) on_true) own.path
        (λ k' m n a b holds first second.
        renamed k' (body_of (leveled own one) on_true) (body_of (leveled own other) on_true)
        (λ ns c l c' l' a b holds first second. body-alike on_true own k' ns c l c' l' a b holds first second) m n a b holds first second)
        (met_of ns c l) (met_of ns c' l') a b holds)
        (λ first second. ended (R k) (met_of ns c l) (met_of ns c' l') a b first second holds) first second
    item-alike (if_else_item _ condition on_true on_false) p k ns c l c' l' a b holds first second =
        both (holds_at (ns ∷ p.outer) condition) _ _ a b (R k a b) first second λ chooses first second.
        let own = within p (block_part on_true) (ns ∷ p.outer) in
        let alt = within p (block_part on_false) (ns ∷ p.outer) in
        chosen-runs k chooses (block_of (λ own. body_of own on_true) (leveled p one) on_true) (block_of (λ own. body_of own on_false) (leveled p one) on_false)
        (block_of (λ own. body_of own on_true) (leveled p other) on_true) (block_of (λ own. body_of own on_false) (leveled p other) on_false) (met_of ns c l) (met_of ns c' l') a b
        (encloses-runs k (body_of (leveled own one) on_true) (body_of (leveled own other) on_true) own.path
        (λ k' m n a b holds first second.
        renamed k' (body_of (leveled own one) on_true) (body_of (leveled own other) on_true)
        (λ ns c l c' l' a b holds first second. body-alike on_true own k' ns c l c' l' a b holds first second) m n a b holds first second)
        (met_of ns c l) (met_of ns c' l') a b holds)
        (encloses-runs k (body_of (leveled alt one) on_false) (body_of (leveled alt other) on_false) alt.path
        (λ k' m n a b holds first second.
        renamed k' (body_of (leveled alt one) on_false) (body_of (leveled alt other) on_false)
        (λ ns c l c' l' a b holds first second. body-alike on_false alt k' ns c l c' l' a b holds first second) m n a b holds first second)
        (met_of ns c l) (met_of ns c' l') a b holds) first second

    items-alike : (xs : Items) (p : Place) (k : K) (ns : List Entry) (c : Copies) (l : Left) (c' : Copies) (l' : Left) (a b : Met)
        → R k (met_of ns c l) (met_of ns c' l')
        → items (leveled p one) xs (met_of ns c l) ≡ Ok a → items (leveled p other) xs (met_of ns c' l') ≡ Ok b → R k a b
    items-alike no_items p k ns c l c' l' a b holds first second = ended (R k) (met_of ns c l) (met_of ns c' l') a b first second holds
    items-alike (more_items x xs) p k ns c l c' l' a b holds first second =
        apart (item (leveled p one) x (met_of ns c l)) (item (leveled p other) x (met_of ns c' l')) _ _ a b (R k a b) first second λ m n ran ran' first second.
        renamed k (items (leveled p one) xs) (items (leveled p other) xs)
        (λ ns c l c' l' a b holds first second. items-alike xs p k ns c l c' l' a b holds first second)
        m n a b (item-alike x p k ns c l c' l' m n holds ran ran') first second

    body-alike : (x : PlainBlock) (p : Place) (k : K) (ns : List Entry) (c : Copies) (l : Left) (c' : Copies) (l' : Left) (a b : Met)
        → R k (met_of ns c l) (met_of ns c' l')
        → body_of (leveled p one) x (met_of ns c l) ≡ Ok a → body_of (leveled p other) x (met_of ns c' l') ≡ Ok b → R k a b
    body-alike (single _ x) p k ns c l c' l' a b holds first second = item-alike x p k ns c l c' l' a b holds first second
    body-alike (several _ _ xs) p k ns c l c' l' a b holds first second = items-alike xs p k ns c l c' l' a b holds first second

  -- all the items of a scope
  pub items-run : (xs : Items) (p : Place) (k : K) (m n a b : Met) → R k m n
      → items (leveled p one) xs m ≡ Ok a → items (leveled p other) xs n ≡ Ok b → R k a b
  items-run xs p k = renamed k (items (leveled p one) xs) (items (leveled p other) xs)
      (λ ns c l c' l' a b holds first second. items-alike xs p k ns c l c' l' a b holds first second)
