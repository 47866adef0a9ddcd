-- What a scope has stays there when more is declared.
use Rattle.std.proofs.Common.{◌≡◌, ℕ, Bool, true, false, List, [], ◌∷◌, Option, Some, None, refl, sym, ◌∙◌, ap}
use Rattle.std.specs.Prelude.{⊤, if◌then◌else◌, is_some, not, ◌&&◌, Result, Ok, Err}
use Rattle.std.specs.Option.{option_or}
use Rattle.std.proofs.lemmas.Bool.{true≢false}
use Rattle.std.proofs.lemmas.Option.{none-some}
use Rattle.std.proofs.lemmas.Slice.Eq.{bytes_eq-Decides}
use Rattle.v_syntax.specs.declared.declaration.Identifier.{Identifier}
use Rattle.v_hierarchy.specs.declared.error.ElabErr.{ElabErr}
use Rattle.v_hierarchy.specs.declared.error.ElabErr.TheVariants as fault
use Rattle.v_hierarchy.specs.declared.signal.Signal.{Signal}
use Rattle.v_hierarchy.specs.Names.{Entry, Standing, signal, array, integer, genvar, constant, same_name, find, again, declared, may_join, joined, agree, fresh}
use Rattle.v_hierarchy.proofs.FrameLaws.{declared-is, behind, both_of}
use Rattle.v_hierarchy.proofs.DeclaredLaws.{next_standing, Own, own-declared, other-declared, same-itself}
use Rattle.bind_laws.specs.OfText.{IsSignal, AreApart}
use Rattle.bind_laws.proofs.Steps.{Err-Ok, ended}

-- a name of a port, which has a direction
pub record IsPort (entries : List Entry) (name : List ℕ) : Type 0 where
  pub declared : Signal
  pub is : find name entries ≡ Some (signal declared)
  pub directed : is_some declared.direction ≡ true

pub record Grows (es after : List Entry) : Type 0 where
  pub signals : (q : List ℕ) → IsSignal es q → IsSignal after q
  pub ports : (q : List ℕ) → IsPort es q → IsPort after q
  pub integers : (q : List ℕ) → find q es ≡ Some integer → find q after ≡ Some integer

pub same-grows : (es : List Entry) → Grows es es
same-grows es = record { signals = λ q is. is; ports = λ q is. is; integers = λ q is. is }

pub then-grows : {a b c : List Entry} → Grows a b → Grows b c → Grows a c
then-grows one other = record {
  signals = λ q is. other.signals q (one.signals q is);
  ports = λ q is. other.ports q (one.ports q is);
  integers = λ q is. other.integers q (one.integers q is);
}

-- ---- names
pub same-name : (a b : List ℕ) → same_name a b ≡ true → a ≡ b
same-name a b is = (bytes_eq-Decides a b).0 is

pub other-name : (a b : List ℕ) → same_name a b ≡ false → same_name b a ≡ false
other-name a b is = by (same_name b a) refl
  where
    by : (same : Bool) → same_name b a ≡ same → same ≡ false
    by false e = refl
    by true e = absurd (true≢false (sym (same-itself a) ∙ ap (same_name a) (sym (same-name b a e)) ∙ is))

-- ---- one more declaration of a signal
record Joins (s : Signal) (both : Standing) : Type 0 where
  kept : Signal
  is : both ≡ signal kept
  directed : is_some s.direction ≡ true → is_some kept.direction ≡ true

first-directed : {A : Type 0} (a b : Option A) → is_some a ≡ true → is_some (option_or a b) ≡ true
first-directed (Some x) b is = refl
first-directed None b is = absurd (true≢false (sym is))

second-directed : {A : Type 0} (a b : Option A) → is_some b ≡ true → is_some (option_or a b) ≡ true
second-directed (Some x) b is = refl
second-directed None b is = is

Some-Standing : (x y : Standing) → Some x ≡ Some y → x ≡ y
Some-Standing x y is = cc

again-joins : (s : Signal) (new both : Standing) → again (signal s) new ≡ Some both → Joins s both
again-joins s (signal t) both is = by (may_join s t) is
  where
    by : (may : Bool) → (if may then Some (signal (joined s t)) else None) ≡ Some both → Joins s both
    by true e = record { kept = joined s t; is = sym (Some-Standing (signal (joined s t)) both e); directed = first-directed s.direction t.direction }
    by false e = absurd (none-some both e)
again-joins s (array t r) both is = absurd (none-some both is)
again-joins s integer both is = absurd (none-some both is)
again-joins s genvar both is = absurd (none-some both is)
again-joins s (constant c b) both is = absurd (none-some both is)

-- what a name is that was declared as a signal
next-joins : (before : Option Standing) (s : Signal) (both : Standing) → next_standing before (signal s) ≡ Some both → Joins s both
next-joins None s both is = record { kept = s; is = sym (Some-Standing (signal s) both is); directed = λ e. e }
next-joins (Some (signal o)) s both is = by (may_join o s) is
  where
    by : (may : Bool) → (if may then Some (signal (joined o s)) else None) ≡ Some both → Joins s both
    by true e = record { kept = joined o s; is = sym (Some-Standing (signal (joined o s)) both e); directed = second-directed o.direction s.direction }
    by false e = absurd (none-some both e)
next-joins (Some (array o r)) s both is = absurd (none-some both is)
next-joins (Some integer) s both is = absurd (none-some both is)
next-joins (Some genvar) s both is = absurd (none-some both is)
next-joins (Some (constant c b)) s both is = absurd (none-some both is)

pub signal-declared : (name : Identifier) (s : Signal) (es after : List Entry) → declared (record { name = name; standing = signal s }) es ≡ Ok after → IsSignal after name.name
signal-declared name s es after is =
    let own = own-declared (record { name = name; standing = signal s }) es after is in
    let joins = next-joins (find name.name es) s own.standing own.next in
    record { declared = joins.kept; is = own.is ∙ ap Some joins.is }

pub port-declared : (name : Identifier) (s : Signal) (es after : List Entry) → is_some s.direction ≡ true → declared (record { name = name; standing = signal s }) es ≡ Ok after → IsPort after name.name
port-declared name s es after directed is =
    let own = own-declared (record { name = name; standing = signal s }) es after is in
    let joins = next-joins (find name.name es) s own.standing own.next in
    record { declared = joins.kept; is = own.is ∙ ap Some joins.is; directed = joins.directed directed }

next-integer : (before : Option Standing) (both : Standing) → next_standing before integer ≡ Some both → both ≡ integer
next-integer None both is = sym (Some-Standing integer both is)
next-integer (Some (signal s)) both is = absurd (none-some both is)
next-integer (Some (array s r)) both is = absurd (none-some both is)
next-integer (Some integer) both is = absurd (none-some both is)
next-integer (Some genvar) both is = absurd (none-some both is)
next-integer (Some (constant c b)) both is = absurd (none-some both is)

pub integer-declared : (name : Identifier) (es after : List Entry) → declared (record { name = name; standing = integer }) es ≡ Ok after → find name.name after ≡ Some integer
integer-declared name es after is =
    let own = own-declared (record { name = name; standing = integer }) es after is in
    own.is ∙ ap Some (next-integer (find name.name es) own.standing own.next)

-- a port is given a direction once
both-directed : (one other : Signal) → is_some one.direction ≡ true → is_some other.direction ≡ true → may_join one other ≡ false
both-directed one other first second =
    ap (λ b. not (b && is_some other.direction) && not (is_some one.kind && is_some other.kind) && agree one.bounds other.bounds) first
    ∙ ap (λ b. not b && not (is_some one.kind && is_some other.kind) && agree one.bounds other.bounds) second

pub port-once : (name : Identifier) (s : Signal) (es after : List Entry) → is_some s.direction ≡ true → IsPort es name.name
    → declared (record { name = name; standing = signal s }) es ≡ Ok after → ⊥
port-once name s es after directed port is =
    let own = own-declared (record { name = name; standing = signal s }) es after is in
    let next : again (signal port.declared) (signal s) ≡ Some own.standing = ap (λ b. next_standing b (signal s)) (sym port.is) ∙ own.next in
    none-some own.standing
    (ap (λ (may : Bool). if may then Some (signal (joined port.declared s)) else None) (sym (both-directed port.declared s port.directed directed)) ∙ next)

-- ---- what was there
pub declared-grows : (new : Entry) (es after : List Entry) → declared new es ≡ Ok after → Grows es after
declared-grows new es after is = record {
  signals = λ q old. signal-stays q old (same_name new.name.name q) refl;
  ports = λ q old. port-stays q old (same_name new.name.name q) refl;
  integers = λ q old. integer-stays q old (same_name new.name.name q) refl;
}
  where
    own : Own new.standing (find new.name.name es) (find new.name.name after)
    own = own-declared new es after is

    joins : (q : List ℕ) (s : Signal) → find q es ≡ Some (signal s) → same_name new.name.name q ≡ true → Joins s own.standing
    joins q s old same =
        again-joins s new.standing own.standing
        (ap (λ b. next_standing b new.standing) (sym old ∙ ap (λ n. find n es) (sym (same-name new.name.name q same))) ∙ own.next)

    here : (q : List ℕ) → same_name new.name.name q ≡ true → find q after ≡ Some own.standing
    here q same = ap (λ n. find n after) (sym (same-name new.name.name q same)) ∙ own.is

    signal-stays : (q : List ℕ) → IsSignal es q → (same : Bool) → same_name new.name.name q ≡ same → IsSignal after q
    signal-stays q old false e = record { declared = old.declared; is = other-declared new es after q is e ∙ old.is }
    signal-stays q old true e = let j = joins q old.declared old.is e in record { declared = j.kept; is = here q e ∙ ap Some j.is }

    port-stays : (q : List ℕ) → IsPort es q → (same : Bool) → same_name new.name.name q ≡ same → IsPort after q
    port-stays q old false e = record { declared = old.declared; is = other-declared new es after q is e ∙ old.is; directed = old.directed }
    port-stays q old true e =
        let j = joins q old.declared old.is e in record { declared = j.kept; is = here q e ∙ ap Some j.is; directed = j.directed old.directed }

    integer-stays : (q : List ℕ) → find q es ≡ Some integer → (same : Bool) → same_name new.name.name q ≡ same → find q after ≡ Some integer
    integer-stays q old false e = other-declared new es after q is e ∙ old
    integer-stays q old true e =
        let next : again integer new.standing ≡ Some own.standing =
        ap (λ b. next_standing b new.standing) (sym old ∙ ap (λ n. find n es) (sym (same-name new.name.name q e))) ∙ own.next in
        absurd (none-some own.standing next)

-- ---- each name is there once
pub declared-apart : (new : Entry) (es after : List Entry) → AreApart es → declared new es ≡ Ok after → AreApart after
declared-apart new [] after apart is = ended AreApart (new ∷ []) after is (refl, tt)
declared-apart new (old ∷ rest) after apart is =
    step (same_name old.name.name new.name.name) refl (again old.standing new.standing) (declared new rest) refl
    (λ xs e. declared-apart new rest xs apart.1 e) (sym (declared-is new old rest) ∙ is)
  where
    step : (same : Bool) → same_name old.name.name new.name.name ≡ same → (both : Option Standing) (next : Result (List Entry) ElabErr) → declared new rest ≡ next
        → ((xs : List Entry) → next ≡ Ok xs → AreApart xs) → (if same then both_of old new rest both else behind old next) ≡ Ok after → AreApart after
    step true same (Some both) next more all e = ended AreApart (record { name = old.name; standing = both } ∷ rest) after e apart
    step true same None next more all e = Err-Ok e
    step false same both (Ok xs) more all e =
        ended AreApart (old ∷ xs) after e
        (other-declared new rest xs old.name.name more (other-name old.name.name new.name.name same) ∙ apart.0, all xs refl)
    step false same both (Err x) more all e = Err-Ok e

-- what declarations do
pub record Declares (es after : List Entry) : Type 0 where
  pub grows : Grows es after
  pub apart : AreApart es → AreApart after

pub declared-does : (new : Entry) (es after : List Entry) → declared new es ≡ Ok after → Declares es after
declared-does new es after is = record { grows = declared-grows new es after is; apart = λ a. declared-apart new es after a is }

pub same-declares : (es : List Entry) → Declares es es
same-declares es = record { grows = same-grows es; apart = λ a. a }

pub then-declares : {a b c : List Entry} → Declares a b → Declares b c → Declares a c
then-declares one other = record { grows = then-grows one.grows other.grows; apart = λ a. other.apart (one.apart a) }

-- a name that its scope doesn't have yet
pub fresh-none : (name : Identifier) (es : List Entry) (u : ⊤) → fresh name es ≡ Ok u → find name.name es ≡ None
fresh-none name es u = by (find name.name es)
  where
    by : (o : Option Standing) → ◌≡◌ {A = Result ⊤ ElabErr} (if is_some o then Err (fault.DoubleName name.site.span) else Ok tt) (Ok u) → o ≡ None
    by None e = refl
    by (Some s) e = Err-Ok e
