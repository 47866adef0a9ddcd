-- What is seen of some of the steps of a log.
use Rattle.std.proofs.Common.{◌≡◌, inl, inr, ℕ, ◌+◌, ◌*◌, ◌<◌, ◌≤◌, Bool, true, false, ◌||◌, List, length, get_or, min, Option, Some, Result, Ok, Err, refl, ap, sym, ◌∙◌, subst, arith}
use Rattle.std.specs.Prelude.{◌↔◌, nat_lt, slice_get, IfOk}
use Rattle.std.proofs.Math.Nat.{mul-le-mul_left}
use Rattle.loc_base.specs.declared.memory.NoMemory.{NoMemory}
use Rattle.std.proofs.lemmas.Bool.{cases_lt, false≢true, le-ltb, lt-ltb, or_cases, or_from, or_left, or_right}
use Rattle.clause_base.specs.declared.literal.Lit.{Lit}
use Rattle.clause_base.specs.declared.log.Step.{Step}
use Rattle.clause_base.specs.Steps.{step_at}
use Rattle.front_cert.specs.declared.pieces.Parts.{Parts}
use Rattle.front_cert.specs.declared.reach.Target.{Target}
use Rattle.front_cert.specs.declared.seen.Seen.{Seen}
use Rattle.front_cert.specs.Reaches.{AreSeen, IsAdded, IsJoined, IsSeen, JoinsPart, SomeBetween, greatest, is_alone, is_shown, shows_absent}

module _ (test : List Lit → Bool) (log : List Step) where
  abbrev Tells : ℕ → ℕ → Bool → Type 0
  Tells from to b = (b ≡ true) ↔ SomeBetween test log from to

  -- there is no step
  none-tells : (from : ℕ) (b : Bool) → b ≡ false → Tells from from b
  none-tells from b is = (λ is_so. absurd (false≢true (sym is ∙ is_so)), λ some. absurd (omega (arith, some.low, some.high)))

  -- one step more
  next-tells : (from to : ℕ) (b : Bool) → from ≤ to → Tells from to b → Tells from (to + 1) (b || test (step_at log to).clause)
  next-tells from to b low tells = (ahead, back)
    where
      ahead : (b || test (step_at log to).clause) ≡ true → SomeBetween test log from (to + 1)
      ahead is_so =
          (elim (or_cases b (test (step_at log to).clause) is_so) [ inl old ↦ let some : SomeBetween test log from to = tells.0 old in record { place = some.place; low = some.low; high = omega (arith, some.high); passes = some.passes } | inr new ↦ record { place = to; low = low; high = omega arith; passes = new } ])

      back : SomeBetween test log from (to + 1) → (b || test (step_at log to).clause) ≡ true
      back some = elim (cases_lt some.place to) [
        | inl before ↦ or_left b (test (step_at log to).clause) (tells.1 (record { place = some.place; low = some.low; high = before; passes = some.passes }))
        | inr past ↦
            let same : some.place ≡ to = omega (arith, past, some.high) in
            or_right b (test (step_at log to).clause) (subst (λ (p : ℕ). test (step_at log p).clause ≡ true) same some.passes)
      ]

  -- steps behind others
  both-tell : (from middle to : ℕ) (b c : Bool) → from ≤ middle → middle ≤ to → Tells from middle b → Tells middle to c → Tells from to (b || c)
  both-tell from middle to b c low high one other = (ahead, back)
    where
      ahead : (b || c) ≡ true → SomeBetween test log from to
      ahead is_so =
          (elim (or_cases b c is_so) [ inl first ↦ let some : SomeBetween test log from middle = one.0 first in record { place = some.place; low = some.low; high = omega (arith, some.high, high); passes = some.passes } | inr second ↦ let some : SomeBetween test log middle to = other.0 second in record { place = some.place; low = omega (arith, some.low, low); high = some.high; passes = some.passes } ])

      back : SomeBetween test log from to → (b || c) ≡ true
      back some = elim (cases_lt some.place middle) [
        | inl before ↦ or_left b c (one.1 (record { place = some.place; low = some.low; high = before; passes = some.passes }))
        | inr past ↦ or_right b c (other.1 (record { place = some.place; low = past; high = some.high; passes = some.passes }))
      ]

-- nothing was seen
pub seen-none : (members : List ℕ) (least more : Option Lit) (log : List Step) (from : ℕ) (seen : Seen) → seen.alone ≡ false → length seen.only.items ≡ greatest members
    → ((x : ℕ) → x < greatest members → is_shown seen x ≡ false) → IsSeen members least more log from from seen
seen-none members least more log from seen alone room none = record {
  room = room;
  alone = none-tells (is_alone least) log from seen.alone alone;
  shown = λ x some within apart. none-tells (shows_absent members more x) log from (is_shown seen x) (none x within);
}

-- one step more
pub seen-next : (target : Target) (log : List Step) (from to : ℕ) (clause : List Lit) (before after : Seen) → from ≤ to → clause ≡ (step_at log to).clause
    → IsSeen target.members.now target.least target.more log from to before → IsAdded target clause before after
    → IsSeen target.members.now target.least target.more log from (to + 1) after
seen-next target log from to clause before after low is seen added = record {
  room = added.room ∙ seen.room;
  alone = subst (Tells (is_alone target.least) log from (to + 1)) (sym (added.alone ∙ ap (λ c. before.alone || is_alone target.least c) is))
      (next-tells (is_alone target.least) log from to before.alone low seen.alone);
  shown = λ x some within apart.
      subst (Tells (shows_absent target.members.now target.more x) log from (to + 1))
      (sym (added.shown x some (subst (λ n. x < n) (sym seen.room) within) apart ∙ ap (λ c. is_shown before x || shows_absent target.members.now target.more x c) is))
      (next-tells (shows_absent target.members.now target.more x) log from to (is_shown before x) low (seen.shown x some within apart));
}

-- steps behind others
pub seen-both : (members : List ℕ) (least more : Option Lit) (log : List Step) (from middle to : ℕ) (one other both : Seen) → from ≤ middle → middle ≤ to
    → IsSeen members least more log from middle one → IsSeen members least more log middle to other → IsJoined one other both
    → IsSeen members least more log from to both
seen-both members least more log from middle to one other both low high first second joined = record {
  room = joined.room ∙ first.room;
  alone = subst (Tells (is_alone least) log from to) (sym joined.alone) (both-tell (is_alone least) log from middle to one.alone other.alone low high first.alone second.alone);
  shown = λ x some within apart.
      subst (Tells (shows_absent members more x) log from to) (sym (joined.shown x (subst (λ n. x < n) (sym first.room) within)))
      (both-tell (shows_absent members more x) log from middle to (is_shown one x) (is_shown other x) low high (first.shown x some within apart) (second.shown x some within apart));
}

-- the lesser of two numbers is below where one of them is
above-least : (a b x : ℕ) → nat_lt (min a b) x ≡ (nat_lt a x || nat_lt b x)
above-least a b x = elim (cases_lt a x) [
  | inl one ↦ lt-ltb (min a b) x (omega (arith, one)) ∙ sym (or_left (nat_lt a x) (nat_lt b x) (lt-ltb a x one))
  | inr past ↦ elim (cases_lt b x) [
    | inl other ↦ lt-ltb (min a b) x (omega (arith, other)) ∙ sym (or_right (nat_lt a x) (nat_lt b x) (lt-ltb b x other))
    | inr further ↦ le-ltb (min a b) x (omega (arith, past, further)) ∙ sym (or_from (nat_lt a x) (nat_lt b x) (le-ltb a x past) (le-ltb b x further))
  ]
]

four : (p q r s : Bool) → ((p || q) || (r || s)) ≡ ((p || r) || (q || s))
four true q r s = refl
four false true true s = refl
four false true false s = refl
four false false r s = refl

-- two that are joined up to each number
pub joined : (one other both : Seen) (x : ℕ) → both.alone ≡ (one.alone || other.alone) → both.above ≡ min one.above other.above
    → length both.only.items ≡ length one.only.items → length both.only.items ≤ x
    → ((y : ℕ) → y < x → get_or both.only.items y false ≡ (get_or one.only.items y false || get_or other.only.items y false)) → IsJoined one other both
joined one other both x alone above room whole each = record {
  room = room;
  alone = alone;
  shown = λ y within.
      ap (λ b. b || nat_lt both.above y) (each y (omega (arith, within, whole, room)))
      ∙ (ap (λ a. (get_or one.only.items y false || get_or other.only.items y false) || nat_lt a y) above
      ∙ (ap (λ b. (get_or one.only.items y false || get_or other.only.items y false) || b) (above-least one.above other.above y)
      ∙ four (get_or one.only.items y false) (get_or other.only.items y false) (nat_lt one.above y) (nat_lt other.above y)));
}

-- a part that was seen by a worker, behind those before it
pub part-joined : (members : List ℕ) (least more : Option Lit) (log : List Step) (k many : ℕ) (one other both : Seen)
    → IsSeen members least more log 0 (min (length log) (k * many)) one → IsSeen members least more log (min (length log) (k * many)) (min (length log) (k * many + many)) other
    → IsJoined one other both → IsSeen members least more log 0 (min (length log) ((k + 1) * many)) both
part-joined members least more log k many one other both first second is =
    subst (λ to. IsSeen members least more log 0 (min (length log) to) both) next
    (seen-both members least more log 0 (min (length log) (k * many)) (min (length log) (k * many + many)) one other both (omega arith) (omega arith) first second is)
  where
    next : k * many + many ≡ (k + 1) * many
    next = omega arith

-- no part yet
pub parts-none : (members : List ℕ) (least more : Option Lit) (log : List Step) (many : ℕ) (seen : Seen) → seen.alone ≡ false → length seen.only.items ≡ greatest members
    → ((x : ℕ) → x < greatest members → is_shown seen x ≡ false) → IsSeen members least more log 0 (min (length log) (0 * many)) seen
parts-none members least more log many seen alone room none =
    let start : 0 ≡ min (length log) (0 * many) = omega arith in
    subst (λ (to : ℕ). IsSeen members least more log 0 to seen) start (seen-none members least more log 0 seen alone room none)

module _ (members : List ℕ) (least more : Option Lit) (log : List Step) (parts : Parts) (are : AreSeen members least more log parts) where
  -- a part has as many marks
  pub part-room : (k to : ℕ) (part : Result Seen NoMemory) (one : Seen) → slice_get parts.seen.items k ≡ Some part → IsSeen members least more log 0 to one
      → IfOk part (λ other. length other.only.items ≡ length one.only.items)
  part-room k to part one at before = alike part (are.each k part at)
    where
      alike : (part : Result Seen NoMemory) → IfOk part (IsSeen members least more log (min (length log) (k * parts.many)) (min (length log) (k * parts.many + parts.many)))
          → IfOk part (λ other. length other.only.items ≡ length one.only.items)
      alike (Ok other) seen = seen.room ∙ sym before.room
      alike (Err e) seen = tt

  -- one part more
  pub part-next : (k : ℕ) (part : Result Seen NoMemory) (one both : Seen) → slice_get parts.seen.items k ≡ Some part
      → IsSeen members least more log 0 (min (length log) (k * parts.many)) one → JoinsPart one part both
      → IsSeen members least more log 0 (min (length log) ((k + 1) * parts.many)) both
  part-next k part one both at before joins = by part (are.each k part at) joins
    where
      by : (part : Result Seen NoMemory) → IfOk part (IsSeen members least more log (min (length log) (k * parts.many)) (min (length log) (k * parts.many + parts.many)))
          → JoinsPart one part both → IsSeen members least more log 0 (min (length log) ((k + 1) * parts.many)) both
      by (Ok other) seen is = part-joined members least more log k parts.many one other both before seen is
      by (Err e) seen is = absurd is

  -- all parts
  pub parts-all : (k : ℕ) (seen : Seen) → length parts.seen.items ≤ k → IsSeen members least more log 0 (min (length log) (k * parts.many)) seen
      → IsSeen members least more log 0 (length log) seen
  parts-all k seen past is =
      let rise : parts.many * length parts.seen.items ≤ parts.many * k = mul-le-mul_left parts.many past in
      let whole : min (length log) (k * parts.many) ≡ length log = omega (arith, rise, are.cover) in
      subst (λ (to : ℕ). IsSeen members least more log 0 to seen) whole is

pub ruleset see_rules = (seen-none, seen-next)

pub ruleset part_rules = (parts-none, part-room, part-next, parts-all)
