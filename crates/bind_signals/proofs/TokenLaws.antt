-- One name more in a table of tokens.
use Rattle.std.proofs.Common.{◌≡◌, ℕ, Bool, true, false, ◌&&◌, ◌||◌, List, [], ◌∷◌, Option, Some, None, refl, sym, ap, ◌∙◌, arith}
use Rattle.std.specs.Prelude.{if◌then◌else◌, nat_lt, max}
use Rattle.std.specs.Option.{option_or, option_map_or}
use Rattle.std.proofs.lemmas.Slice.Eq.{bytes_eq-Decides}
use Rattle.loc_base.proofs.ShelfBools.{or-assoc}
use Rattle.v_hierarchy.specs.Names.{Entry, same_name}
use Rattle.v_hierarchy.specs.Places.{with_place}
use Rattle.v_binding.specs.Signals.{declared_at, hides}
use Rattle.bind_signals.specs.Tables.{last_with}

abbrev behind : Option ℕ → ℕ → Bool
behind o token = option_map_or (λ last. nat_lt token last) o false

lt-max : (token last more : ℕ) → nat_lt token (max last more) ≡ (nat_lt token more || nat_lt token last)
lt-max token last more = grind arith

or-none : (b : Bool) → b ≡ (b || false)
or-none true = refl
or-none false = refl

-- ---- variables of loops
pub token-put : (before after : List ℕ → Option ℕ) (name q : List ℕ) (n token : ℕ) → after q ≡ with_place name (last_with n (before name)) before q
    → behind (after q) token ≡ ((same_name name q && nat_lt token n) || behind (before q) token)
token-put before after name q n token is = ap (λ o. behind o token) is ∙ step (same_name name q) refl
  where
    own : (o : Option ℕ) → nat_lt token (last_with n o) ≡ (nat_lt token n || behind o token)
    own None = or-none (nat_lt token n)
    own (Some last) = lt-max token last n

    step : (same : Bool) → same_name name q ≡ same
        → behind (if same then Some (last_with n (before name)) else before q) token ≡ ((same && nat_lt token n) || behind (before q) token)
    step false other = refl
    step true same = own (before name) ∙ ap (λ m. nat_lt token n || behind (before m) token) ((bytes_eq-Decides name q).0 same)

pub token-next : (one before after rest : Bool) → after ≡ (one || before) → (after || rest) ≡ (before || (one || rest))
token-next one before after rest is = ap (λ b. b || rest) is ∙ step one before
  where
    step : (one old : Bool) → ((one || old) || rest) ≡ (old || (one || rest))
    step true true = refl
    step true false = refl
    step false old = refl

-- ---- what a scope declares
or-nothing : (o : Option ℕ) → o ≡ option_or o None
or-nothing None = refl
or-nothing (Some n) = refl

pub first-kept : (before : List ℕ → Option ℕ) (name q : List ℕ) (first n : ℕ) → Some first ≡ before name
    → before q ≡ option_or (before q) (if same_name name q then Some n else None)
first-kept before name q first n is = step (same_name name q) refl
  where
    step : (same : Bool) → same_name name q ≡ same → before q ≡ option_or (before q) (if same then Some n else None)
    step false other = or-nothing (before q)
    step true same =
        let here : before q ≡ Some first = sym (ap before ((bytes_eq-Decides name q).0 same)) ∙ sym is in
        here ∙ sym (ap (λ o. option_or o (Some n)) here)

pub first-put : (before after : List ℕ → Option ℕ) (name q : List ℕ) (n : ℕ) → None ≡ before name → after q ≡ with_place name n before q
    → after q ≡ option_or (before q) (if same_name name q then Some n else None)
first-put before after name q n none is = is ∙ step (same_name name q) refl
  where
    step : (same : Bool) → same_name name q ≡ same → (if same then Some n else before q) ≡ option_or (before q) (if same then Some n else None)
    step false other = or-nothing (before q)
    step true same =
        let here : before q ≡ None = sym (ap before ((bytes_eq-Decides name q).0 same)) ∙ sym none in
        sym (ap (λ o. option_or o (Some n)) here)

pub first-next : (q : List ℕ) (e : Entry) (rest : List Entry) (before after : Option ℕ) → after ≡ option_or before (declared_at q (e ∷ []))
    → option_or after (declared_at q rest) ≡ option_or before (declared_at q (e ∷ rest))
first-next q e rest before after is = ap (λ o. option_or o (declared_at q rest)) is ∙ step before (same_name e.name.name q)
  where
    step : (o : Option ℕ) (same : Bool)
        → option_or (option_or o (if same then Some e.name.site.token else None)) (declared_at q rest)
        ≡ option_or o (if same then Some e.name.site.token else declared_at q rest)
    step None true = refl
    step None false = refl
    step (Some n) same = refl

-- ---- by what a table is found to have
pub token-putting : (before after : List ℕ → Option ℕ) (bytes name q : List ℕ) (n token last : ℕ) (own : Option ℕ) → bytes ≡ name → own ≡ before bytes → last ≡ last_with n own
    → after q ≡ with_place bytes last before q → behind (after q) token ≡ ((same_name name q && nat_lt token n) || behind (before q) token)
token-putting before after bytes name q n token last own same found lasts is =
    token-put before after name q n token
    (is ∙ ap (λ l. with_place bytes l before q) (lasts ∙ ap (last_with n) found) ∙ ap (λ b. with_place b (last_with n (before b)) before q) same)

pub hides-found : (table : List ℕ → Option ℕ) (entries : List Entry) (bytes name : List ℕ) (token : ℕ) (o p : Option ℕ) → ((q : List ℕ) → table q ≡ declared_at q entries)
    → bytes ≡ name → o ≡ table bytes → o ≡ p → option_map_or (λ at. nat_lt at token) p false ≡ hides name entries token
hides-found table entries bytes name token o p has same found is =
    ap (λ x. option_map_or (λ at. nat_lt at token) x false) (sym is ∙ found ∙ ap table same ∙ has name)
