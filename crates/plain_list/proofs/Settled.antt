-- The valuation that the assignments of a network make, carried out in its order, is the one of its cycle.
use Rattle.std.proofs.Common.{◌≡◌, ◌≢◌, ℕ, zero, suc, ◌+◌, ◌<◌, ◌≤◌, ◌⊎◌, inl, inr, Bool, true, false, List, [], ◌∷◌, refl, ap, sym, ◌∙◌, subst, arith}
use Rattle.std.specs.Prelude.{All, AllPairs, Contains, slice_get, Some}
use Rattle.std.specs.List.{list_any}
use Rattle.std.proofs.lemmas.Grind.{common_steps}
use Rattle.loc_base.proofs.ShelfLists.{All-member, Contains-cons, Contains-empty, Contains-first, Contains-later}
use Rattle.loc_base.proofs.ShelfOptions.{Some-same}
use Rattle.design_core.specs.declared.signal.Signal.{Signal}
use Rattle.design_core.specs.declared.statement.Part.{Part}
use Rattle.design_core.specs.declared.statement.Part.TheVariants.{Whole, Slice, Pick, Word}
use Rattle.design_core.specs.declared.driver.Driver.{Driver}
use Rattle.design_core.specs.declared.driver.Driver.TheVariants.{Cont, Comb}
use Rattle.design_core.specs.declared.design.Design.{Design}
use Rattle.design_core.specs.Valuation.{Valuation, bit, width_at}
use Rattle.design_core.specs.Value.{value}
use Rattle.design_core.specs.Store.{store, with_bits}
use Rattle.design_core.specs.After.{Choice}
use Rattle.design_core.specs.Drives.{driver_drives, part_drives}
use Rattle.design_core.specs.Cycle.{cont_assigned, driven, without}
use Rattle.design_core.proofs.ValueAgrees.{value-agrees}
use Rattle.design_core.proofs.Lists.{All-later, AllPairs-first, AllPairs-later}
use Rattle.plain_list.specs.Network.{whole_of, target_of, value_reads, Assigns, IsFreeOf, with_net, assign, step, settled_from}

pub true-false : true ≡ false → ⊥
true-false e = cc

pub lt_or_ge : (m n : ℕ) → (m < n) ⊎ (n ≤ m)
lt_or_ge m zero = inr (omega arith)
lt_or_ge zero (suc n) = inl (omega arith)
lt_or_ge (suc m) (suc n) = elim (lt_or_ge m n) [ inl h ↦ inl (omega (arith, h)) | inr h ↦ inr (omega (arith, h)) ]

-- a net is assigned by a driver that is still to come
abbrev pub IsPending : Design → List ℕ → ℕ → Type 0
IsPending d rest s = (i : ℕ) × Contains rest i × Assigns d i s

-- a driver assigns one net
pub Assigns-one : (d : Design) (i s t : ℕ) → Assigns d i s → Assigns d i t → s ≡ t
Assigns-one d i s t (driver, at, to) (other, at', to') =
    let same : driver ≡ other = Some-same (sym at ∙ at') in
    Some-same (sym to ∙ ap target_of same ∙ to')

-- what one assignment gives the net
pub with_net-at : (signals : List Signal) (V : Valuation) (s b : ℕ) (bits : ℕ → Bool) → b < width_at signals s → with_net signals V (Some s) bits s b ≡ bits b
with_net-at signals V s b bits h = grind (arith, common_steps)

pub with_net-high : (signals : List Signal) (V : Valuation) (s t b : ℕ) (bits : ℕ → Bool) → width_at signals s ≤ b → with_net signals V (Some s) bits t b ≡ V t b
with_net-high signals V s t b bits h = grind (arith, common_steps)

pub with_net-other : (signals : List Signal) (V : Valuation) (s t b : ℕ) (bits : ℕ → Bool) → t ≢ s → with_net signals V (Some s) bits t b ≡ V t b
with_net-other signals V s t b bits h = grind (arith, common_steps)

-- the number that a driver gives its net
abbrev pub given : List Signal → Choice → Valuation → Driver → ℕ
given signals choice V (Cont _ computed place _) = cont_assigned choice place (value signals V computed)
given signals choice V (Comb _ _) = 0

pub given-agrees : (signals : List Signal) (choice : Choice) (V W : Valuation) (driver : Driver)
    → ((s b : ℕ) → value_reads signals s b driver ≡ true → V s b ≡ W s b) → given signals choice V driver ≡ given signals choice W driver
given-agrees signals choice V W (Cont target computed place span) same =
    ap (cont_assigned choice place) (value-agrees signals V W computed (record { same = same }))
given-agrees signals choice V W (Comb _ _) same = refl

pub whole_of-parts : (parts : List Part) (s : ℕ) → whole_of parts ≡ Some s → parts ≡ Whole s ∷ []
whole_of-parts [] s e = cc
whole_of-parts (Whole t ∷ []) s e = ap (λ n. Whole n ∷ []) (Some-same e)
whole_of-parts (Whole t ∷ part ∷ parts) s e = cc
whole_of-parts (Slice _ _ _ ∷ parts) s e = cc
whole_of-parts (Pick _ _ _ ∷ parts) s e = cc
whole_of-parts (Word _ _ _ _ _ _ ∷ parts) s e = cc

-- one assignment carried out gives its net its number
pub assign-at : (signals : List Signal) (choice : Choice) (V : Valuation) (driver : Driver) (s b : ℕ) → target_of driver ≡ Some s → b < width_at signals s
    → assign signals choice V driver s b ≡ bit (given signals choice V driver) b
assign-at signals choice V (Cont target computed place span) s b e h = rw e (with_net-at signals V s b (bit (given signals choice V (Cont target computed place span))) h)
assign-at signals choice V (Comb _ _) s b e h = cc

pub assign-high : (signals : List Signal) (choice : Choice) (V : Valuation) (driver : Driver) (s t b : ℕ) → target_of driver ≡ Some s → width_at signals s ≤ b
    → assign signals choice V driver t b ≡ V t b
assign-high signals choice V (Cont target computed place span) s t b e h = rw e (with_net-high signals V s t b (bit (given signals choice V (Cont target computed place span))) h)
assign-high signals choice V (Comb _ _) s t b e h = refl

pub assign-other : (signals : List Signal) (choice : Choice) (V : Valuation) (driver : Driver) (s t b : ℕ) → target_of driver ≡ Some s → t ≢ s
    → assign signals choice V driver t b ≡ V t b
assign-other signals choice V (Cont target computed place span) s t b e h = rw e (with_net-other signals V s t b (bit (given signals choice V (Cont target computed place span))) h)
assign-other signals choice V (Comb _ _) s t b e h = refl

-- the equation of a driver says the same
pub store_whole : (signals : List Signal) (V : Valuation) (s b : ℕ) (bits : ℕ → Bool) → b < width_at signals s
    → with_bits V s 0 (width_at signals s) (λ p. bits (0 + p)) s b ≡ bits b
store_whole signals V s b bits h = grind (arith, common_steps)

pub store-parts : (signals : List Signal) (V : Valuation) (parts : List Part) (s b : ℕ) (bits : ℕ → Bool) → parts ≡ Whole s ∷ [] → b < width_at signals s
    → store signals V V parts bits s b ≡ bits b
store-parts signals V parts s b bits e h = rw e (store_whole signals V s b bits h)

pub driven-at : (signals : List Signal) (choice : Choice) (V : Valuation) (driver : Driver) (s b : ℕ) → target_of driver ≡ Some s → b < width_at signals s
    → driven signals choice V driver s b ≡ bit (given signals choice V driver) b
driven-at signals choice V (Cont target computed place span) s b e h =
    store-parts signals (without signals (Cont target computed place span) V) target.parts s b
    (bit (given signals choice V (Cont target computed place span))) (whole_of-parts target.parts s e) h
driven-at signals choice V (Comb _ _) s b e h = cc

pub drives-at : (signals : List Signal) (driver : Driver) (s b : ℕ) → target_of driver ≡ Some s → b < width_at signals s → driver_drives signals s b driver ≡ true
drives-at signals (Cont target computed place span) s b e h = rw (whole_of-parts target.parts s e) (grind (arith, common_steps))
drives-at signals (Comb _ _) s b e h = cc

pub drives-only : (signals : List Signal) (driver : Driver) (s t b : ℕ) → target_of driver ≡ Some s → driver_drives signals t b driver ≡ true → (t ≡ s) × (b < width_at signals s)
drives-only signals (Cont target computed place span) s t b e h = whole (rw (whole_of-parts target.parts s e) at h)
  where
    whole : list_any (part_drives signals t b) (Whole s ∷ []) ≡ true → (t ≡ s) × (b < width_at signals s)
    whole g = (grind (arith, common_steps), grind (arith, common_steps))
drives-only signals (Comb _ _) s t b e h = absurd (cc)

pub step-is : (d : Design) (choice : Choice) (V : Valuation) (i : ℕ) (driver : Driver) → slice_get d.drivers.items i ≡ Some driver
    → step d choice V i ≡ assign d.signals.items choice V driver
step-is d choice V i driver e = rw e refl

pub step-at : (d : Design) (choice : Choice) (V : Valuation) (i s b : ℕ) (a : Assigns d i s) → b < width_at d.signals.items s
    → step d choice V i s b ≡ bit (given d.signals.items choice V a.0) b
step-at d choice V i s b (driver, at, to) h = rw (step-is d choice V i driver at) (assign-at d.signals.items choice V driver s b to h)

pub step-high : (d : Design) (choice : Choice) (V : Valuation) (i s t b : ℕ) → Assigns d i s → width_at d.signals.items s ≤ b → step d choice V i t b ≡ V t b
step-high d choice V i s t b (driver, at, to) h = rw (step-is d choice V i driver at) (assign-high d.signals.items choice V driver s t b to h)

pub step-other : (d : Design) (choice : Choice) (V : Valuation) (i s t b : ℕ) → Assigns d i s → t ≢ s → step d choice V i t b ≡ V t b
step-other d choice V i s t b (driver, at, to) h = rw (step-is d choice V i driver at) (assign-other d.signals.items choice V driver s t b to h)

-- what an order must have for its steps: each assigns a net, and none reads what it or a later one assigns
pub record Goes (d : Design) (rest : List ℕ) : Type 0 where
  pub assigned : All (λ i. (s : ℕ) × Assigns d i s) rest
  pub self : All (λ i. IsFreeOf d i i) rest
  pub later : AllPairs (λ i j. (i ≢ j) × IsFreeOf d i j) rest

pub Goes-later : (d : Design) (i : ℕ) (rest : List ℕ) → Goes d (i ∷ rest) → Goes d rest
Goes-later d i rest g =
    record {
      assigned = All-later (λ i. (s : ℕ) × Assigns d i s) i rest g.assigned;
      self = All-later (λ i. IsFreeOf d i i) i rest g.self;
      later = AllPairs-later (λ i j. (i ≢ j) × IsFreeOf d i j) i rest g.later;
    }

pub Goes-first : (d : Design) (i : ℕ) (rest : List ℕ) → Goes d (i ∷ rest) → (s : ℕ) × Assigns d i s
Goes-first d i rest g = All-member (λ i. (s : ℕ) × Assigns d i s) (i ∷ rest) i g.assigned (Contains-first i rest)

-- the first reads nothing that is still to come
pub first-reads : (d : Design) (i : ℕ) (rest : List ℕ) (driver : Driver) (s b : ℕ) → Goes d (i ∷ rest) → slice_get d.drivers.items i ≡ Some driver
    → IsPending d (i ∷ rest) s → value_reads d.signals.items s b driver ≡ false
first-reads d i rest driver s b g at (j, in_rest, a) =
    elim (Contains-cons i rest j in_rest) [
      | inl same ↦ All-member (λ i. IsFreeOf d i i) (i ∷ rest) i g.self (Contains-first i rest) driver s b at (subst (λ n. Assigns d n s) (sym same) a)
      | inr later ↦ (AllPairs-first (λ i j. (i ≢ j) × IsFreeOf d i j) i rest j g.later later).1 driver s b at a
    ]

-- what no step to come assigns stays
pub settled-kept : (d : Design) (choice : Choice) (rest : List ℕ) (V : Valuation) (s b : ℕ) → Goes d rest → (IsPending d rest s → ⊥) → settled_from d choice V rest s b ≡ V s b
settled-kept d choice [] V s b g none = refl
settled-kept d choice (i ∷ rest) V s b g none =
    settled-kept d choice rest (step d choice V i) s b (Goes-later d i rest g) (λ (j, in_rest, a). none (j, Contains-later i rest j in_rest, a))
    ∙ other (Goes-first d i rest g)
  where
    other : (t : ℕ) × Assigns d i t → step d choice V i s b ≡ V s b
    other (t, a) = step-other d choice V i t s b a (λ e. none (i, Contains-first i rest, subst (λ n. Assigns d i n) (sym e) a))

pub same_or_not : (m n : ℕ) → (m ≡ n) ⊎ (m ≢ n)
same_or_not zero zero = inl refl
same_or_not zero (suc n) = inr (λ e. absurd (omega (arith, e)))
same_or_not (suc m) zero = inr (λ e. absurd (omega (arith, e)))
same_or_not (suc m) (suc n) = elim (same_or_not m n) [ inl e ↦ inl (ap suc e) | inr ne ↦ inr (λ e. ne (omega (arith, e))) ]

pub step-above : (d : Design) (choice : Choice) (V : Valuation) (i t s b : ℕ) → Assigns d i t → width_at d.signals.items s ≤ b → step d choice V i s b ≡ V s b
step-above d choice V i t s b a h =
    elim (same_or_not s t) [
      | inl same ↦ step-high d choice V i t s b a (subst (λ n. width_at d.signals.items n ≤ b) same h)
      | inr apart ↦ step-other d choice V i t s b a apart
    ]

pub settled-high : (d : Design) (choice : Choice) (rest : List ℕ) (V : Valuation) (s b : ℕ) → Goes d rest → width_at d.signals.items s ≤ b → settled_from d choice V rest s b ≡ V s b
settled-high d choice [] V s b g h = refl
settled-high d choice (i ∷ rest) V s b g h =
    settled-high d choice rest (step d choice V i) s b (Goes-later d i rest g) h ∙ same (Goes-first d i rest g)
  where
    same : (t : ℕ) × Assigns d i t → step d choice V i s b ≡ V s b
    same (t, a) = step-above d choice V i t s b a h

-- a net is assigned by one driver, so it is not still to come once that driver is done
pub record Once (d : Design) : Type 0 where
  pub once : (i j s : ℕ) → Assigns d i s → Assigns d j s → i ≡ j

pub done : (d : Design) (i : ℕ) (rest : List ℕ) (s : ℕ) → Once d → Goes d (i ∷ rest) → Assigns d i s → IsPending d rest s → ⊥
done d i rest s o g a (j, in_rest, a') =
    (AllPairs-first (λ i j. (i ≢ j) × IsFreeOf d i j) i rest j g.later in_rest).0 (o.once i j s a a')

-- in the end each net has what its driver gives it by the valuation in the end
pub settled-given : (d : Design) (choice : Choice) (rest : List ℕ) (V : Valuation) (i s b : ℕ) (a : Assigns d i s) → Once d → Goes d rest → Contains rest i → b < width_at d.signals.items s
    → settled_from d choice V rest s b ≡ bit (given d.signals.items choice (settled_from d choice V rest) a.0) b
settled-given d choice [] V i s b a o g c h = absurd (Contains-empty i c)
settled-given d choice (j ∷ rest) V i s b a o g c h =
    elim (Contains-cons j rest i c) [
      | inl same ↦ now same
      | inr later ↦ settled-given d choice rest (step d choice V j) i s b a o (Goes-later d j rest g) later h
    ]
  where
    W : Valuation
    W = settled_from d choice (step d choice V j) rest

    first : j ≡ i → Assigns d j s
    first same = subst (λ n. Assigns d n s) (sym same) a

    unread : (driver : Driver) → slice_get d.drivers.items j ≡ Some driver → (t p : ℕ) → value_reads d.signals.items t p driver ≡ true → W t p ≡ V t p
    unread driver at t p r =
        let free : IsPending d (j ∷ rest) t → ⊥ = λ pending. absurd (true-false (sym r ∙ first-reads d j rest driver t p g at pending)) in
        settled-kept d choice (j ∷ rest) V t p g free

    now : j ≡ i → W s b ≡ bit (given d.signals.items choice W a.0) b
    now same =
        settled-kept d choice rest (step d choice V j) s b (Goes-later d j rest g) (λ pending. done d j rest s o g (first same) pending)
        ∙ step-at d choice V j s b (a.0, subst (λ n. slice_get d.drivers.items n ≡ Some a.0) (sym same) a.1, a.2) h
        ∙ ap (λ n. bit n b) (given-agrees d.signals.items choice V W a.0 (λ t p r. sym (unread a.0 (subst (λ n. slice_get d.drivers.items n ≡ Some a.0) (sym same) a.1) t p r)))

-- any valuation in which each net has what its driver gives it, and which is the same at first, is the same in the end
pub settled-only : (d : Design) (choice : Choice) (rest : List ℕ) (V W : Valuation) → Once d → Goes d rest
    → ((i s b : ℕ) (a : Assigns d i s) → Contains rest i → b < width_at d.signals.items s → V s b ≡ bit (given d.signals.items choice V a.0) b)
    → ((s b : ℕ) → (IsPending d rest s → ⊥) ⊎ (width_at d.signals.items s ≤ b) → V s b ≡ W s b)
    → (s b : ℕ) → V s b ≡ settled_from d choice W rest s b
settled-only d choice [] V W o g each same s b = same s b (inl (λ (i, c, a). absurd (Contains-empty i c)))
settled-only d choice (i ∷ rest) V W o g each same s b =
    settled-only d choice rest V (step d choice W i) o (Goes-later d i rest g)
    (λ j t p a c h. each j t p a (Contains-later i rest j c) h)
    (λ t p h. after t p (Goes-first d i rest g) h)
    s b
  where
    agree : (driver : Driver) → slice_get d.drivers.items i ≡ Some driver → given d.signals.items choice V driver ≡ given d.signals.items choice W driver
    agree driver at =
        given-agrees d.signals.items choice V W driver
        (λ t p r. same t p (inl (λ pending. absurd (true-false (sym r ∙ first-reads d i rest driver t p g at pending)))))

    at_net : (t p : ℕ) (a : Assigns d i t) → V t p ≡ step d choice W i t p
    at_net t p a = elim (lt_or_ge p (width_at d.signals.items t)) [
      | inl low ↦ each i t p a (Contains-first i rest) low ∙ ap (λ n. bit n p) (agree a.0 a.1) ∙ sym (step-at d choice W i t p a low)
      | inr high ↦ same t p (inr high) ∙ sym (step-high d choice W i t t p a high)
    ]

    after : (t p : ℕ) → (n : ℕ) × Assigns d i n → (IsPending d rest t → ⊥) ⊎ (width_at d.signals.items t ≤ p) → V t p ≡ step d choice W i t p
    after t p (n, a) (inr high) = same t p (inr high) ∙ sym (step-above d choice W i n t p a high)
    after t p (n, a) (inl none) = elim (same_or_not t n) [
      | inl e ↦ at_net t p (subst (λ m. Assigns d i m) (sym e) a)
      | inr apart ↦ same t p (inl (not_pending n a apart none)) ∙ sym (step-other d choice W i n t p a apart)
    ]
      where
        not_pending : (n : ℕ) → Assigns d i n → t ≢ n → (IsPending d rest t → ⊥) → IsPending d (i ∷ rest) t → ⊥
        not_pending n a apart none (j, c, a') = elim (Contains-cons i rest j c) [
          | inl e ↦ apart (Assigns-one d i t n (subst (λ m. Assigns d m t) (sym e) a') a)
          | inr later ↦ none (j, later, a')
        ]
