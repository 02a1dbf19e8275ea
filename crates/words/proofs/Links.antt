-- How the links of a sparse set stay sound when rows are exchanged, appended, removed; and that a count tells them sound. Assumes nothing.
use mathlib.Core.Path.{◌≡◌, sym, ap, ◌∙◌}
use mathlib.Core.Logic.{◌≢◌}
use Prim.Native.Nat.{ℕ, ◌+◌, ◌-◌, ◌≤◌, ◌<◌}
use native.Mathlib.Omega.{arith}
use borrow.Author.Tests.{lt-ltb, ltb-true}
use lib.Dec.{ltb}
use mathlib.Core.Bool.{true}
use Rattle.model.proofs.BoolLaws.{by-eq}
use Rattle.words.specs.Links.{Tied, Linked}
use Rattle.words.specs.Counted.{filled}
use Rattle.words.proofs.Counted.{counted_all, all_counted}

-- rows that are tied, and each held index a row's, are linked
pub link : (n k : ℕ) (idx ver place held : ℕ → ℕ) → k ≤ n → ((i : ℕ) → i < k → Tied n idx ver place held i)
    → ((x : ℕ) → x < n → 1 ≤ held x → (i : ℕ) × (i < k) × (idx i ≡ x)) → Linked n k idx ver place held
link n k idx ver place held r t c =
    let at : (x : ℕ) (hx : x < n) (hh : 1 ≤ held x) → place x ≡ (c x hx hh).0 =
    λ x hx hh. let s = c x hx hh in ap place (sym s.2) ∙ (t s.0 s.1).placed in
    record {
      room = r;
      tied = t;
      inside = λ x hx hh. rw (at x hx hh) (c x hx hh).1;
      back = λ x hx hh. ap idx (at x hx hh) ∙ (c x hx hh).2;
    }

module _ (n k : ℕ) (idx ver place held : ℕ → ℕ) (t : (i : ℕ) → i < k → Tied n idx ver place held i) where
  -- two rows have two indices
  tied_apart : (i j : ℕ) → i < k → j < k → i ≢ j → idx i ≢ idx j
  tied_apart i j hi hj ne e = ne (sym (t i hi).placed ∙ ap place e ∙ (t j hj).placed)

  tied_held : (i : ℕ) → i < k → ltb 0 (held (idx i)) ≡ true
  tied_held i h = lt-ltb 0 (held (idx i)) (omega (arith, (t i h).agreed, (t i h).issued))

  -- rows that are tied are linked if as many indices are held, and only then
  pub held_linked : k ≤ n → filled n held ≡ k → Linked n k idx ver place held
  held_linked r e =
      link n k idx ver place held r t
      (λ x hx hh. all_counted n k idx (λ y. ltb 0 (held y)) (λ i h. (t i h).below) tied_apart tied_held e x hx (lt-ltb 0 (held x) hh))

pub linked_held : (n k : ℕ) (idx ver place held : ℕ → ℕ) → Linked n k idx ver place held → filled n held ≡ k
linked_held n k idx ver place held L =
    counted_all n k idx (λ y. ltb 0 (held y)) (λ i h. (L.tied i h).below) (tied_apart n k idx ver place held L.tied) (tied_held n k idx ver place held L.tied)
    (λ x hx h. let hh = ltb-true 0 (held x) h in (place x, L.inside x hx hh, L.back x hx hh))

module _ (n k : ℕ) (idx ver place held : ℕ → ℕ) (L : Linked n k idx ver place held) where
  pub apart : (i j : ℕ) → i < k → j < k → i ≢ j → idx i ≢ idx j
  apart = tied_apart n k idx ver place held L.tied

  module _ (idx' ver' place' held' : ℕ → ℕ) where
    -- the old row j, now at i
    pub carried : (i j : ℕ) → j < k → idx' i ≡ idx j → ver' i ≡ ver j → place' (idx j) ≡ i → held' (idx j) ≡ held (idx j) → Tied n idx' ver' place' held' i
    carried i j hj ei ev ep eh =
        let o = L.tied j hj in
        record {
          below = rw ei o.below;
          issued = rw ev o.issued;
          placed = ap place' ei ∙ ep;
          agreed = ap held' ei ∙ eh ∙ o.agreed ∙ sym ev;
        }

    pub linked_exchanged : (a b : ℕ) → a < k → b < k → a ≢ b
        → idx' a ≡ idx b → idx' b ≡ idx a → ((i : ℕ) → i < k → i ≢ a → i ≢ b → idx' i ≡ idx i)
        → ver' a ≡ ver b → ver' b ≡ ver a → ((i : ℕ) → i < k → i ≢ a → i ≢ b → ver' i ≡ ver i)
        → place' (idx a) ≡ b → place' (idx b) ≡ a → ((x : ℕ) → x < n → x ≢ idx a → x ≢ idx b → place' x ≡ place x)
        → ((x : ℕ) → x < n → held' x ≡ held x)
        → Linked n k idx' ver' place' held'
    linked_exchanged a b ha hb ab ia ib io va vb vo pa pb po h =
        link n k idx' ver' place' held' L.room
        (λ i hi.
        by-eq i a
        (λ e. rw e (carried a b hb ia va pb (h (idx b) (L.tied b hb).below)))
        (λ na.
        by-eq i b
        (λ e. rw e (carried b a ha ib vb pa (h (idx a) (L.tied a ha).below)))
        (λ nb.
        carried i i hi (io i hi na nb) (vo i hi na nb)
        (po (idx i) (L.tied i hi).below (apart i a hi ha na) (apart i b hi hb nb) ∙ (L.tied i hi).placed)
        (h (idx i) (L.tied i hi).below))))
        (λ x hx hh.
        let hh₀ : 1 ≤ held x = rw (h x hx) at hh in
        let p = L.inside x hx hh₀ in
        let e = L.back x hx hh₀ in
        by-eq (place x) a
        (λ pa₀. (b, hb, ib ∙ ap idx (sym pa₀) ∙ e))
        (λ na. by-eq (place x) b (λ pb₀. (a, ha, ia ∙ ap idx (sym pb₀) ∙ e)) (λ nb. (place x, p, io (place x) p na nb ∙ e))))

    -- one more row, of an index that was not held
    pub linked_appended : k < n → (x v : ℕ) → x < n → 1 ≤ v → held x ≡ 0
        → idx' k ≡ x → ((i : ℕ) → i < k → idx' i ≡ idx i)
        → ver' k ≡ v → ((i : ℕ) → i < k → ver' i ≡ ver i)
        → place' x ≡ k → ((y : ℕ) → y < n → y ≢ x → place' y ≡ place y)
        → held' x ≡ v → ((y : ℕ) → y < n → y ≢ x → held' y ≡ held y)
        → Linked n (k + 1) idx' ver' place' held'
    linked_appended hk x v hx hv free ik io vk vo px po hx' ho =
        let other : (i : ℕ) → i < k → idx i ≢ x =
        λ i hi e. let t = L.tied i hi in let z : held (idx i) ≡ 0 = ap held e ∙ free in omega (arith, t.agreed, t.issued) in
        link n (k + 1) idx' ver' place' held' (omega arith)
        (λ i hi.
        by-eq i k
        (λ e.
        rw e
        (record { below = rw ik hx; issued = rw vk hv; placed = ap place' ik ∙ px; agreed = ap held' ik ∙ hx' ∙ sym vk }))
        (λ ne.
        let h : i < k = omega arith in
        let t = L.tied i h in
        carried i i h (io i h) (vo i h) (po (idx i) t.below (other i h) ∙ t.placed) (ho (idx i) t.below (other i h))))
        (λ y hy hh.
        by-eq y x
        (λ e. (k, omega arith, ik ∙ sym e))
        (λ ne.
        let hh₀ : 1 ≤ held y = rw (ho y hy ne) at hh in
        let p = L.inside y hy hh₀ in
        (place y, omega arith, io (place y) p ∙ L.back y hy hh₀)))

    -- row p gone, the last row in its place
    pub linked_removed : (p : ℕ) → p < k
        → (p < k - 1 → idx' p ≡ idx (k - 1)) → ((i : ℕ) → i < k - 1 → i ≢ p → idx' i ≡ idx i)
        → (p < k - 1 → ver' p ≡ ver (k - 1)) → ((i : ℕ) → i < k - 1 → i ≢ p → ver' i ≡ ver i)
        → (p < k - 1 → place' (idx (k - 1)) ≡ p) → ((i : ℕ) → i < k - 1 → i ≢ p → place' (idx i) ≡ place (idx i))
        → held' (idx p) ≡ 0 → ((y : ℕ) → y < n → y ≢ idx p → held' y ≡ held y)
        → Linked n (k - 1) idx' ver' place' held'
    linked_removed p hp ip io vp vo pp po gone ho =
        link n (k - 1) idx' ver' place' held' (omega (arith, L.room))
        (λ i hi.
        by-eq i p
        (λ e.
        let q : p < k - 1 = omega arith in
        let hl : k - 1 < k = omega arith in
        let nl : k - 1 ≢ p = omega arith in
        rw e (carried p (k - 1) hl (ip q) (vp q) (pp q) (ho (idx (k - 1)) (L.tied (k - 1) hl).below (apart (k - 1) p hl hp nl))))
        (λ ne.
        let h : i < k = omega arith in
        let t = L.tied i h in
        carried i i h (io i hi ne) (vo i hi ne) (po i hi ne ∙ t.placed) (ho (idx i) t.below (apart i p h hp ne))))
        (λ y hy hh.
        by-eq y (idx p)
        (λ e. absurd (let z : held' y ≡ 0 = ap held' e ∙ gone in omega arith))
        (λ ne.
        let hh₀ : 1 ≤ held y = rw (ho y hy ne) at hh in
        let q = L.inside y hy hh₀ in
        let e = L.back y hy hh₀ in
        by-eq (place y) (k - 1)
        (λ l.
        let np : p ≢ k - 1 = λ pe. ne (sym e ∙ ap idx (l ∙ sym pe)) in
        let pl : p < k - 1 = omega arith in
        (p, pl, ip pl ∙ ap idx (sym l) ∙ e))
        (λ nl.
        let pl : place y < k - 1 = omega arith in
        (place y, pl, io (place y) pl (λ pe. ne (sym e ∙ ap idx pe)) ∙ e))))

    -- entities and slots as they were
    pub linked_same : ((i : ℕ) → i < k → idx' i ≡ idx i) → ((i : ℕ) → i < k → ver' i ≡ ver i)
        → ((x : ℕ) → x < n → place' x ≡ place x) → ((x : ℕ) → x < n → held' x ≡ held x) → Linked n k idx' ver' place' held'
    linked_same ei ev ep eh =
        link n k idx' ver' place' held' L.room
        (λ i hi. let t = L.tied i hi in carried i i hi (ei i hi) (ev i hi) (ep (idx i) t.below ∙ t.placed) (eh (idx i) t.below))
        (λ x hx hh. let h : 1 ≤ held x = rw (eh x hx) at hh in (place x, L.inside x hx h, ei (place x) (L.inside x hx h) ∙ L.back x hx h))
