-- Going round a queue, and how a queue stays sound when a number joins it at its end or leaves it at its front. Assumes nothing.
use mathlib.Core.Path.{◌≡◌, sym, ap, ◌∙◌}
use mathlib.Core.Logic.{◌≢◌}
use Prim.Native.Nat.{ℕ, suc, ◌+◌, ◌-◌, ◌≤◌, ◌<◌}
use native.Mathlib.Omega.{arith}
use borrow.Author.Tests.{lt-ltb, le-ltb, le-leb, lt-leb, ltb-true}
use lib.Dec.{ltb}
use mathlib.Core.Bool.{true}
use Rattle.model.proofs.BoolLaws.{by-eq, by_lt}
use Rattle.words.specs.Counted.{filled}
use Rattle.words.proofs.Counted.{counted_all, all_counted}
use Rattle.words.proofs.Pigeon.{pigeon_free}
use Rattle.entity.specs.Queue.{wrapped, since, Waits, Queued, Queue}

pub wrapped_low : (n k : ℕ) → k < n → wrapped n k ≡ k
unfolding wrapped
wrapped_low n k h = rw (lt-ltb k n h)

pub wrapped_high : (n k : ℕ) → n ≤ k → wrapped n k ≡ k - n
unfolding wrapped
wrapped_high n k h = rw (le-ltb k n h)

pub since_low : (n h p : ℕ) → h ≤ p → since n h p ≡ p - h
unfolding since
since_low n h p l = rw (le-leb h p l)

pub since_high : (n h p : ℕ) → p < h → since n h p ≡ p + n - h
unfolding since
since_high n h p l = rw (lt-leb h p l)

module _ (n h : ℕ) (b : h < n) where
  pub wrapped_below : (j : ℕ) → j ≤ n → wrapped n (h + j) < n
  wrapped_below j hj =
      by_lt (h + j) n
      (λ l. omega (arith, wrapped_low n (h + j) l))
      (λ l. omega (arith, wrapped_high n (h + j) l))

  pub wrapped_start : wrapped n (h + 0) ≡ h
  wrapped_start = wrapped_low n (h + 0) (omega arith) ∙ omega arith

  pub since_wrapped : (j : ℕ) → j < n → since n h (wrapped n (h + j)) ≡ j
  since_wrapped j hj =
      by_lt (h + j) n
      (λ l. ap (since n h) (wrapped_low n (h + j) l) ∙ since_low n h (h + j) (omega arith) ∙ omega arith)
      (λ l. ap (since n h) (wrapped_high n (h + j) l) ∙ since_high n h (h + j - n) (omega arith) ∙ omega arith)

  pub wrapped_since : (p : ℕ) → p < n → wrapped n (h + since n h p) ≡ p
  wrapped_since p hp =
      by_lt p h
      (λ l. ap (λ (k : ℕ). wrapped n (h + k)) (since_high n h p l) ∙ wrapped_high n (h + (p + n - h)) (omega arith) ∙ omega arith)
      (λ l. ap (λ (k : ℕ). wrapped n (h + k)) (since_low n h p l) ∙ wrapped_low n (h + (p - h)) (omega arith) ∙ omega arith)

  pub wrapped_apart : (i j : ℕ) → i < n → j < n → i ≢ j → wrapped n (h + i) ≢ wrapped n (h + j)
  wrapped_apart i j hi hj ne e = ne (sym (since_wrapped i hi) ∙ ap (since n h) e ∙ since_wrapped j hj)

  -- going on from the place after h
  pub wrapped_next : (j : ℕ) → j < n → wrapped n (wrapped n (h + 1) + j) ≡ wrapped n (h + suc j)
  wrapped_next j hj =
      by_lt (h + 1) n
      (λ l. let e : wrapped n (h + 1) + j ≡ h + suc j = omega (arith, wrapped_low n (h + 1) l) in ap (wrapped n) e)
      (λ l.
      let e : wrapped n (h + 1) + j ≡ j = omega (arith, wrapped_high n (h + 1) l) in
      ap (wrapped n) e ∙ wrapped_low n j hj ∙ omega (arith, wrapped_high n (h + suc j) (omega arith)))

  pub since_next : (p : ℕ) → p < n → p ≢ h → since n h p ≡ suc (since n (wrapped n (h + 1)) p)
  since_next p hp ne =
      by_lt (h + 1) n
      (λ l.
      let e = wrapped_low n (h + 1) l in
      by_lt p h
      (λ q. since_high n h p q ∙ rw e (omega (arith, since_high n (h + 1) p (omega arith))))
      (λ q. since_low n h p q ∙ rw e (omega (arith, since_low n (h + 1) p (omega arith)))))
      (λ l.
      let e : wrapped n (h + 1) ≡ 0 = omega (arith, wrapped_high n (h + 1) l) in
      since_high n h p (omega arith) ∙ rw e (omega (arith, since_low n 0 p (omega arith))))

module _ (n issued h c : ℕ) (idx ver back held : ℕ → ℕ) (b : h < n) (few : c ≤ n) (w : (j : ℕ) → j < c → Waits issued idx ver back held (wrapped n (h + j))) where
  -- two waiting numbers have two indices
  waits_apart : (i j : ℕ) → i < c → j < c → i ≢ j → idx (wrapped n (h + i)) ≢ idx (wrapped n (h + j))
  waits_apart i j hi hj ne e =
      let q = ap back e in
      wrapped_apart n h b i j (omega arith) (omega arith) ne (omega (arith, (w i hi).pointed, (w j hj).pointed, q))

  waits_filled : (j : ℕ) → j < c → ltb 0 (back (idx (wrapped n (h + j)))) ≡ true
  waits_filled j hj = lt-ltb 0 (back (idx (wrapped n (h + j)))) (omega (arith, (w j hj).pointed))

  -- the number that waits behind j others is listed
  waits_listed : (x j : ℕ) → j < c → idx (wrapped n (h + j)) ≡ x → Queued n h c idx back x
  waits_listed x j hj e =
      let q : back x ≡ wrapped n (h + j) + 1 = ap back (sym e) ∙ (w j hj).pointed in
      let p : back x - 1 ≡ wrapped n (h + j) = omega arith in
      record {
        inside = omega (arith, wrapped_below n h b j (omega arith));
        used = rw p (omega (arith, since_wrapped n h b j (omega arith)));
        found = ap idx p ∙ e;
      }

  -- numbers that wait are a queue if as many indexes say that they wait
  pub filled_queue : issued ≤ n → filled n back ≡ c → Queue n issued h c idx ver back held
  filled_queue le e =
      record {
        start = b;
        few = few;
        waits = w;
        listed =
            λ x hx hb.
            let r = all_counted n c (λ j. idx (wrapped n (h + j))) (λ y. ltb 0 (back y)) (λ j hj. omega (arith, (w j hj).below)) waits_apart waits_filled e x hx (lt-ltb 0 (back x) hb) in
            waits_listed x r.0 r.1 r.2;
      }

module _ (n issued h c : ℕ) (idx ver back held : ℕ → ℕ) (R : Queue n issued h c idx ver back held) where
  -- a place in use has a number that waits
  pub waits_at : (p : ℕ) → p < n → since n h p < c → Waits issued idx ver back held p
  waits_at p hp u = rw (wrapped_since n h R.start p hp) at (R.waits (since n h p) u)

  -- an index that says that it waits is issued and not live
  pub listed_waits : (x : ℕ) → x < n → 1 ≤ back x → Waits issued idx ver back held (back x - 1)
  listed_waits x hx b = let l = R.listed x hx b in waits_at (back x - 1) (omega (arith, l.inside)) l.used

  pub listed_free : (x : ℕ) → x < n → 1 ≤ back x → held x ≡ 0
  listed_free x hx b = rw (R.listed x hx b).found at (listed_waits x hx b).free

  pub listed_below : (x : ℕ) → x < n → 1 ≤ back x → x < issued
  listed_below x hx b = rw (R.listed x hx b).found at (listed_waits x hx b).below

  pub queue_apart : (i j : ℕ) → i < c → j < c → i ≢ j → idx (wrapped n (h + i)) ≢ idx (wrapped n (h + j))
  queue_apart = waits_apart n issued h c idx ver back held R.start R.few R.waits

  -- as many indexes say that they wait as numbers wait
  pub queue_filled : issued ≤ n → filled n back ≡ c
  queue_filled le =
      counted_all n c (λ j. idx (wrapped n (h + j))) (λ y. ltb 0 (back y))
      (λ j hj. omega (arith, (R.waits j hj).below))
      queue_apart
      (waits_filled n issued h c idx ver back held R.start R.few R.waits)
      (λ x hx q.
      let l = R.listed x hx (ltb-true 0 (back x) q) in
      (since n h (back x - 1), l.used, ap idx (wrapped_since n h R.start (back x - 1) (omega (arith, ltb-true 0 (back x) q, l.inside))) ∙ l.found))

  -- where an issued index does not wait, there is room for it
  pub queue_has_room : (x : ℕ) → x < issued → issued ≤ n → back x ≡ 0 → c < n
  queue_has_room x hx hn u =
      pigeon_free n c x (λ j. idx (wrapped n (h + j))) (omega arith)
      (λ j hj. omega (arith, (R.waits j hj).below))
      queue_apart
      (λ j hj e. let q = ap back e in omega (arith, (R.waits j hj).pointed))

  module _ (issued' : ℕ) (idx' ver' back' held' : ℕ → ℕ) where
    -- the number at p waits on
    carried : (p : ℕ) → Waits issued idx ver back held p → issued ≤ issued' → idx' p ≡ idx p → ver' p ≡ ver p
        → back' (idx p) ≡ back (idx p) → held' (idx p) ≡ held (idx p) → Waits issued' idx' ver' back' held' p
    carried p o le ei ev eb eh =
        record {
          below = rw ei (omega (arith, o.below));
          positive = rw ev o.positive;
          pointed = ap back' ei ∙ eb ∙ o.pointed;
          free = ap held' ei ∙ eh ∙ o.free;
        }

    -- index x points where it pointed
    relisted : (h' c' x : ℕ) → Queued n h c idx back x → back' x ≡ back x → since n h' (back x - 1) < c' → idx' (back x - 1) ≡ idx (back x - 1)
        → Queued n h' c' idx' back' x
    relisted h' c' x l e u ei =
        record {
          inside = rw e l.inside;
          used = rw e u;
          found = ap (λ (k : ℕ). idx' (k - 1)) e ∙ ei ∙ l.found;
        }

    -- the queue as it was; the waiting numbers stay free
    pub queue_same : issued ≤ issued' → issued ≤ n → ((p : ℕ) → p < n → idx' p ≡ idx p) → ((p : ℕ) → p < n → ver' p ≡ ver p)
        → ((x : ℕ) → x < n → back' x ≡ back x) → ((x : ℕ) → x < n → 1 ≤ back x → held' x ≡ held x)
        → Queue n issued' h c idx' ver' back' held'
    queue_same le ln ei ev eb eh =
        record {
          start = R.start;
          few = R.few;
          waits =
              λ j hj.
              let o = R.waits j hj in
              let hp = wrapped_below n h R.start j (omega (arith, R.few)) in
              let hx : idx (wrapped n (h + j)) < n = omega (arith, o.below) in
              carried (wrapped n (h + j)) o le (ei _ hp) (ev _ hp) (eb _ hx) (eh _ hx (omega (arith, o.pointed)));
          listed =
              λ x hx hb.
              let e = eb x hx in
              let l = R.listed x hx (omega arith) in
              relisted h c x l e l.used (ei (back x - 1) (omega (arith, l.inside)));
        }

    -- the number x, v at the end of the queue
    pub queue_pushed : issued ≤ issued' → issued ≤ n → (x v : ℕ) → x < issued → 1 ≤ v → held x ≡ 0 → back x ≡ 0
        → idx' (wrapped n (h + c)) ≡ x → ((p : ℕ) → p < n → p ≢ wrapped n (h + c) → idx' p ≡ idx p)
        → ver' (wrapped n (h + c)) ≡ v → ((p : ℕ) → p < n → p ≢ wrapped n (h + c) → ver' p ≡ ver p)
        → back' x ≡ wrapped n (h + c) + 1 → ((y : ℕ) → y < n → y ≢ x → back' y ≡ back y)
        → ((y : ℕ) → y < n → held' y ≡ held y)
        → Queue n issued' h (c + 1) idx' ver' back' held'
    queue_pushed le ln x v hx hv free un ix io vx vo bx bo eh =
        let room : c < n = queue_has_room x hx ln un in
        let q = wrapped n (h + c) in
        let hq : q < n = wrapped_below n h R.start c (omega arith) in
        let sq : since n h q ≡ c = since_wrapped n h R.start c room in
        let eq : back' x - 1 ≡ q = omega arith in
        record {
          start = R.start;
          few = omega arith;
          waits =
              λ j hj.
              by-eq j c
              (λ e.
              rw e
              (record {
                below = rw ix (omega arith);
                positive = rw vx hv;
                pointed = ap back' ix ∙ bx;
                free = ap held' ix ∙ eh x (omega arith) ∙ free;
              }))
              (λ ne.
              let o = R.waits j (omega arith) in
              let p = wrapped n (h + j) in
              let hp : p < n = wrapped_below n h R.start j (omega arith) in
              let np : p ≢ q = wrapped_apart n h R.start j c (omega arith) room ne in
              let hy : idx p < n = omega (arith, o.below) in
              let ny : idx p ≢ x = λ z. let t = ap back z in omega (arith, o.pointed) in
              carried p o le (io p hp np) (vo p hp np) (bo (idx p) hy ny) (eh (idx p) hy));
          listed =
              λ y hy hb.
              by-eq y x
              (λ e.
              rw e
              (record {
                inside = omega arith;
                used = rw eq (omega arith);
                found = ap idx' eq ∙ ix;
              }))
              (λ ne.
              let e = bo y hy ne in
              let l = R.listed y hy (omega arith) in
              let np : back y - 1 ≢ q = λ z. let t = ap (since n h) z in omega (arith, l.used) in
              relisted h (c + 1) y l e (omega (arith, l.used)) (io (back y - 1) (omega (arith, l.inside)) np));
        }

    -- the number at the front gone from the queue
    pub queue_popped : issued ≤ issued' → issued ≤ n → 1 ≤ c
        → ((p : ℕ) → p < n → idx' p ≡ idx p) → ((p : ℕ) → p < n → ver' p ≡ ver p)
        → back' (idx h) ≡ 0 → ((y : ℕ) → y < n → y ≢ idx h → back' y ≡ back y)
        → ((y : ℕ) → y < n → held' y ≡ held y)
        → Queue n issued' (wrapped n (h + 1)) (c - 1) idx' ver' back' held'
    queue_popped le ln some ei ev bx bo eh =
        record {
          start = wrapped_below n h R.start 1 (omega (arith, R.few));
          few = omega (arith, R.few);
          waits =
              λ j hj.
              let o = R.waits (suc j) (omega arith) in
              let p = wrapped n (h + suc j) in
              let hp : p < n = wrapped_below n h R.start (suc j) (omega (arith, R.few)) in
              let hy : idx p < n = omega (arith, o.below) in
              let ny : idx p ≢ idx h =
              λ z. queue_apart (suc j) 0 (omega arith) (omega arith) (omega arith) (z ∙ ap idx (sym (wrapped_start n h R.start))) in
              rw (wrapped_next n h R.start j (omega (arith, R.few)))
              (carried p o le (ei p hp) (ev p hp) (bo (idx p) hy ny) (eh (idx p) hy));
          listed =
              λ y hy hb.
              let ny : y ≢ idx h = λ z. let t = ap back' z in omega arith in
              let e = bo y hy ny in
              let l = R.listed y hy (omega arith) in
              let p = back y - 1 in
              let hp : p < n = omega (arith, l.inside) in
              let np : p ≢ h = λ z. ny (sym l.found ∙ ap idx z) in
              relisted (wrapped n (h + 1)) (c - 1) y l e (omega (arith, since_next n h R.start p hp np, l.used)) (ei p hp);
        }
