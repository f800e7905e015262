-- What an accepted derivation shows, whoever wrote it: some take may be made, every frame of it is permitted, and three steps were spent on each of its
-- frames beside the take. Assumes nothing.
use mathlib.Core.Path.{◌≡◌, refl, sym}
use mathlib.Core.Bool.{Bool, true, false, cond, ◌&&◌, ◌||◌}
use mathlib.Core.Option
use mathlib.Core.Option.{Option, some, none, Option-elim}
use mathlib.Core.List.{List, [], ◌∷◌, map}
use Prim.Native.Nat.{ℕ, zero, suc, ◌+◌, ◌*◌, ◌≤◌}
use native.Mathlib.Omega.{arith}
use lib.Dec.{eqb}
use lib.ListN.{length, take}
use lib.Seq.{length-take-le}
use Rattle.bits.proofs.Laws.{never}
use Rattle.beliefs.specs.declared.Marked.{Marked}
use Rattle.beliefs.specs.Lists.{empty}
use Rattle.answers.specs.Numbers.{not_allowed, not_empty}
use Rattle.answers.specs.Account.{told}
use Rattle.beliefs.specs.Policy.{permits}
use Rattle.beliefs.specs.Derivation.{Entry, frame, signer, target, may_take, taken, spoken, allowed, at_place, drop_from, drop_last, rule, place, follow, judge}
use Rattle.derivation.proofs.Deciding.{speak, Stands, may_within}

-- a frame is three steps from being dropped, a signer two, T one
weight_of : Entry → ℕ
weight_of (frame s) = 3
weight_of (signer s) = 2
weight_of target = 1

weight : List Entry → ℕ
weight [] = 0
weight (e ∷ es) = weight_of e + weight es

pub none_some : {A : Type 0} (x : A) → none ≡ some x → ⊥
none_some x h = let z : ◌≡◌ {A = ℕ} 0 1 = cc in omega arith

module _ (p : List ℕ) (t : ℕ) where
  -- what a frame has become in a chain: T only if the policy permits its signer
  abbrev Became : Marked → Entry → Type 0
  Became m (frame s) = s ≡ m.signer
  Became m (signer s) = s ≡ m.signer
  Became m target = permits p m.signer t ≡ true

  -- a chain over the frames taken: place by place what each has become; those dropped from its end are permitted
  abbrev Over : List Marked → List Entry → Type 0
  Over ms [] = speak p t ms ≡ true
  Over [] (e ∷ es) = ⊥
  Over (m ∷ ms) (e ∷ es) = Became m e × Over ms es

  over_taken : (ms : List Marked) → Over ms (map (λ (m : Marked). frame m.signer) ms)
  over_taken [] = refl
  over_taken (m ∷ ms) = (refl, over_taken ms)

  -- what a step makes of a chain: still one over the frames taken, and at most one step nearer to its end
  record Next (ms : List Marked) (es xs : List Entry) : Type 0 where
    over : Over ms xs
    lowers : weight es ≤ weight xs + 1

  -- the same of one entry
  record Turned (m : Marked) (e x : Entry) : Type 0 where
    became : Became m x
    lowers : weight_of e ≤ weight_of x + 1

  Rule : (Entry → Option Entry) → Type 0
  Rule g = (m : Marked) (e x : Entry) → Became m e → g e ≡ some x → Turned m e x

  spoken_rule : Rule spoken
  unfolding Rule weight_of
  spoken_rule m (frame s) x b h = let q : signer s ≡ x = cc in rw (← q) (record { became = b; lowers = omega arith })
  spoken_rule m (signer s) x b h = absurd (none_some x h)
  spoken_rule m target x b h = absurd (none_some x h)

  allowed_rule : Rule (allowed p t)
  unfolding Rule weight_of
  allowed_rule m (frame s) x b h = absurd (none_some x h)
  allowed_rule m (signer s) x b h = go (permits p s t) refl h
    where
      go : (q : Bool) → permits p s t ≡ q → cond q (some target) none ≡ some x → Turned m (signer s) x
      go true e k = let q : target ≡ x = cc in rw (← q) (record { became = rw (← b) e; lowers = omega arith })
      go false e k = absurd (none_some x k)
  allowed_rule m target x b h = absurd (none_some x h)

  -- rules 1 and 2 at a place
  at_place_lem : (g : Entry → Option Entry) → Rule g → (k : ℕ) (ms : List Marked) (es xs : List Entry) → Over ms es → at_place g k es ≡ some xs → Next ms es xs
  unfolding Rule weight
  at_place_lem g r k ms [] xs o h = absurd (none_some xs h)
  at_place_lem g r k [] (e ∷ es) xs o h = absurd o
  at_place_lem g r zero (m ∷ ms) (e ∷ es) xs o h = go (g e) refl h
    where
      go : (y : Option Entry) → g e ≡ y → Option.map (λ (x : Entry). x ∷ es) y ≡ some xs → Next (m ∷ ms) (e ∷ es) xs
      go none q k = absurd (none_some xs k)
      go (some x) q k =
          let same : (x ∷ es) ≡ xs = cc in
          let a = r m e x o.0 q in
          let l : weight_of e ≤ weight_of x + 1 = a.lowers in
          rw (← same) (record { over = (a.became, o.1); lowers = omega arith })
  at_place_lem g r (suc k) (m ∷ ms) (e ∷ es) xs o h = go (at_place g k es) refl h (λ l. at_place_lem g r k ms es l o.1)
    where
      go : (y : Option (List Entry)) → at_place g k es ≡ y → Option.map (λ (l : List Entry). e ∷ l) y ≡ some xs
          → ((l : List Entry) → at_place g k es ≡ some l → Next ms es l) → Next (m ∷ ms) (e ∷ es) xs
      go none q k ih = absurd (none_some xs k)
      go (some l) q k ih =
          let same : (e ∷ l) ≡ xs = cc in
          let a = ih l q in
          let w : weight es ≤ weight l + 1 = a.lowers in
          rw (← same) (record { over = (o.0, a.over); lowers = omega arith })

  -- rule 3
  drop_from_lem : (e : Entry) (es : List Entry) (ms : List Marked) (xs : List Entry) → Over ms (e ∷ es) → drop_from e es ≡ some xs → Next ms (e ∷ es) xs
  unfolding weight weight_of
  drop_from_lem e es [] xs o h = absurd o
  drop_from_lem (frame s) [] (m ∷ ms) xs o h = absurd (none_some xs h)
  drop_from_lem (signer s) [] (m ∷ ms) xs o h = absurd (none_some xs h)
  drop_from_lem target [] (m ∷ ms) xs o h = let q : [] ≡ xs = cc in rw (← q) (record { over = rw (o.0, o.1); lowers = omega arith })
  drop_from_lem e (x ∷ es) (m ∷ ms) xs o h = go (drop_from x es) refl h (λ l. drop_from_lem x es ms l o.1)
    where
      go : (y : Option (List Entry)) → drop_from x es ≡ y → Option.map (λ (l : List Entry). e ∷ l) y ≡ some xs
          → ((l : List Entry) → drop_from x es ≡ some l → Next ms (x ∷ es) l) → Next (m ∷ ms) (e ∷ x ∷ es) xs
      go none q k ih = absurd (none_some xs k)
      go (some l) q k ih =
          let same : (e ∷ l) ≡ xs = cc in
          let a = ih l q in
          let w : weight (x ∷ es) ≤ weight l + 1 = a.lowers in
          rw (← same) (record { over = (o.0, a.over); lowers = omega arith })

  weight_taken : (ms : List Marked) → weight (map (λ (m : Marked). frame m.signer) ms) ≡ 3 * length ms
  unfolding weight weight_of
  weight_taken [] = refl
  weight_taken (m ∷ ms) = omega (arith, weight_taken ms)

  module _ (ms : List Marked) where
    -- after i steps: the take that the chain comes from, and three steps for each of its frames, spent or still to come
    record Since (es : List Entry) (i : ℕ) : Type 0 where
      n : ℕ
      may : may_take t n ms ≡ true
      over : Over (take n ms) es
      spent : 3 * n + 1 ≤ weight es + i

    -- a step that is no take
    onward : (b : ℕ) (es xs : List Entry) (i : ℕ) → eqb (rule b) 0 ≡ false → follow p ms t b es ≡ some xs → Since es i → Since xs (suc i)
    unfolding follow
    onward b es xs i e h s = go (eqb (rule b) 1) (eqb (rule b) 2) (eqb (place b) 0) (rw e at h)
      where
        next : Next (take s.n ms) es xs → Since xs (suc i)
        next a =
            let l : weight es ≤ weight xs + 1 = a.lowers in
            let w : 3 * s.n + 1 ≤ weight es + i = s.spent in
            record { n = s.n; may = s.may; over = a.over; spent = omega arith }

        dropped : (l : List Entry) → Over (take s.n ms) l → drop_last l ≡ some xs → Next (take s.n ms) l xs
        dropped [] o k = absurd (none_some xs k)
        dropped (x ∷ l) o k = drop_from_lem x l (take s.n ms) xs o k

        go : (one two first : Bool)
            → cond one (at_place spoken (place b) es) (cond two (at_place (allowed p t) (place b) es) (cond first (drop_last es) none)) ≡ some xs
            → Since xs (suc i)
        go true two first k = next (at_place_lem spoken spoken_rule (place b) (take s.n ms) es xs s.over k)
        go false true first k = next (at_place_lem (allowed p t) allowed_rule (place b) (take s.n ms) es xs s.over k)
        go false false true k = next (dropped es s.over k)
        go false false false k = absurd (none_some xs k)

    -- a take
    begins : (b : ℕ) (es xs : List Entry) (i : ℕ) → eqb (rule b) 0 ≡ true → follow p ms t b es ≡ some xs → Since xs (suc i)
    unfolding follow
    begins b es xs i e h = go (may_take t (place b) ms) refl (rw e at h)
      where
        go : (q : Bool) → may_take t (place b) ms ≡ q → cond q (some (taken (place b) ms)) none ≡ some xs → Since xs (suc i)
        go true q k =
            let same : taken (place b) ms ≡ xs = cc in
            let l : length (take (place b) ms) ≡ place b = length-take-le (place b) ms (may_within t ms (place b) q).1 in
            let w : weight (taken (place b) ms) ≡ 3 * length (take (place b) ms) = weight_taken (take (place b) ms) in
            rw (← same) (record { n = place b; may = q; over = over_taken (take (place b) ms); spent = omega arith })
        go false q k = absurd (none_some xs k)

    -- the take behind an accepted derivation: its frames are permitted, and it has at least this many steps
    pub record Shown (steps : ℕ) : Type 0 where
      pub n : ℕ
      pub stands : Stands p t ms n
      pub steps_enough : 3 * n + 1 ≤ steps

    ends : (took : Bool) (i : ℕ) (es : List Entry) → (took ≡ true → Since es i) → (cond (took && empty es) (told 0 i) (told not_empty 0)).number ≡ 0 → Shown i
    unfolding weight
    ends false i es s h = absurd (omega arith)
    ends true i (e ∷ es) s h = absurd (omega arith)
    ends true i [] s h =
        let w : 3 * (s refl).n + 1 ≤ 0 + i = (s refl).spent in
        record { n = (s refl).n; stands = record { may = (s refl).may; permitted = (s refl).over }; steps_enough = omega arith }

    shows : (steps : List ℕ) (took : Bool) (i : ℕ) (es : List Entry) → (took ≡ true → Since es i) → (judge p ms t took i es steps).number ≡ 0
        → Shown (i + length steps)
    unfolding judge Option-elim
    shows [] took i es s h = let same : i ≡ i + 0 = omega arith in rw (← same) (ends took i es s h)
    shows (b ∷ bs) took i es s h = go (follow p ms t b es) refl (λ l. shows bs (took || eqb (rule b) 0) (suc i) l) h
      where
        was : (a : Bool) → (a || false) ≡ true → a ≡ true
        was true k = refl
        was false k = k

        new : (l : List Entry) → follow p ms t b es ≡ some l → (c : Bool) → eqb (rule b) 0 ≡ c → (took || c) ≡ true → Since l (suc i)
        new l q true e k = begins b es l i e q
        new l q false e k = onward b es l i e q (s (was took k))

        go : (y : Option (List Entry)) → follow p ms t b es ≡ y
            → ((l : List Entry) → ((took || eqb (rule b) 0) ≡ true → Since l (suc i)) → (judge p ms t (took || eqb (rule b) 0) (suc i) l bs).number ≡ 0
            → Shown (suc i + length bs))
            → (Option-elim y (told not_allowed i) (λ (l : List Entry). judge p ms t (took || eqb (rule b) 0) (suc i) l bs)).number ≡ 0
            → Shown (i + suc (length bs))
        go none q ih k = absurd (omega arith)
        go (some l) q ih k = let same : suc i + length bs ≡ i + suc (length bs) = omega arith in rw (← same) (ih l (new l q (eqb (rule b) 0) refl) k)

    pub accepted_shows : (steps : List ℕ) → (judge p ms t false 0 [] steps).number ≡ 0 → Shown (length steps)
    accepted_shows steps h = let same : 0 + length steps ≡ length steps = omega arith in rw (← same) (shows steps false 0 [] (λ k. never (sym k)) h)
