-- Lists of kinds: membership, counts, tests of all and of some, equal sets, what two lists have in common. Assumes nothing.
use mathlib.Core.Path.{◌≡◌, refl, ap, ◌∙◌, sym}
use mathlib.Core.Bool.{Bool, true, false, cond, false≢true, ◌&&◌, or-true, ◌||◌, or_assoc, true≢false, or-false as or-none}
use mathlib.Core.List.{List, [], ◌∷◌, ◌++◌, append-nil}
use Prim.Native.Nat.{ℕ, zero, suc, ◌+◌, ◌≤◌, ◌<◌, zero-le}
use native.Mathlib.Omega.{arith}
use borrow.Author.Tests.{eqb-true, eq-eqb, ne_eqb, leb-true}
use lib.Dec.{eqb, leb}
use lib.ListN.{length, get_or, take, drop, set, take-append-drop, length-append}
use lib.Seq.{drop-cons, take-take, drop-length}
use Rattle.model.specs.Lists.{one, count_of, place}
use Rattle.model.proofs.ListLaws.{count_append, count_kept, count_left_out, self_count, count_at_law, count_place, get_d_place, shorter, as_long, drop_step, put_next}
use Rattle.model.specs.Model.{mem, all_of, any_of, within, meets, same_set, without, common, head_kind}
use Rattle.model.specs.Sound.{In, Distinct}
use Rattle.model.proofs.BoolLaws.{by_lt, bool_cases, or_cases, or_false, or_false_right, not_true, and_left, and_right}

pub in_count : (l : List ℕ) (k : ℕ) → In l k → 1 ≤ count_of eqb k l
in_count [] k i = absurd (false≢true i)
in_count (j ∷ l) k i = or_cases (eqb k j) (mem k l) i (λ t. omega (arith, ap one t)) (λ t. omega (arith, in_count l k t))

pub out_count : (l : List ℕ) (k : ℕ) → mem k l ≡ false → count_of eqb k l ≡ 0
out_count [] k n = refl
out_count (j ∷ l) k n = omega (arith, ap one (or_false (eqb k j) (mem k l) n), out_count l k (or_false_right (eqb k j) (mem k l) n))

pub count_in : (l : List ℕ) (k : ℕ) → 1 ≤ count_of eqb k l → In l k
count_in l k h = bool_cases (mem k l) (λ t. t) (λ t. absurd (omega (arith, out_count l k t)))

-- ---- lists joined

pub distinct_left : (a b : List ℕ) → Distinct (a ++ b) → Distinct a
distinct_left a b d k = omega (arith, d k, count_append eqb k a b)

pub distinct_right : (a b : List ℕ) → Distinct (a ++ b) → Distinct b
distinct_right a b d k = omega (arith, d k, count_append eqb k a b)

pub distinct_apart : (a b : List ℕ) → Distinct (a ++ b) → (k : ℕ) → In a k → mem k b ≡ false
distinct_apart a b d k i = not_true (mem k b) (λ t. omega (arith, d k, count_append eqb k a b, in_count a k i, in_count b k t))

-- one kind more, that was not there
pub distinct_snoc : (l : List ℕ) (k : ℕ) → Distinct l → mem k l ≡ false → Distinct (l ++ (k ∷ []))
distinct_snoc l k d n j =
    bool_cases (eqb j k)
    (λ t. omega (arith, count_append eqb j l (k ∷ []), ap one t, ap (λ (i : ℕ). count_of eqb i l) (eqb-true j k t), out_count l k n))
    (λ t. omega (arith, count_append eqb j l (k ∷ []), ap one t, d j))

-- ---- the kinds of ks that js lacks

pub count_without : (ks js : List ℕ) (k : ℕ) → count_of eqb k (without ks js) ≡ cond (mem k js) 0 (count_of eqb k ks)
count_without ks js k =
    count_left_out eqb eqb-true (λ j. mem j js) (λ l. without l js) refl (λ j l. refl) ks k

pub count_without_le : (ks js : List ℕ) (k : ℕ) → count_of eqb k (without ks js) ≤ count_of eqb k ks
count_without_le ks js k = bool_cases (mem k js) (λ t. omega (arith, rw t at (count_without ks js k))) (λ t. omega (arith, rw t at (count_without ks js k)))

pub in_without : (ks js : List ℕ) (k : ℕ) → In ks k → mem k js ≡ false → In (without ks js) k
in_without ks js k i n = count_in (without ks js) k (omega (arith, rw n at (count_without ks js k), in_count ks k i))

pub without_in : (ks js : List ℕ) (k : ℕ) → In (without ks js) k → In ks k
without_in ks js k i = count_in ks k (omega (arith, in_count (without ks js) k i, count_without_le ks js k))

-- ---- the kinds of ks that js has

pub count_common : (ks js : List ℕ) (k : ℕ) → count_of eqb k (common ks js) ≡ cond (mem k js) (count_of eqb k ks) 0
count_common ks js k = count_kept eqb eqb-true (λ j. mem j js) (λ l. common l js) refl (λ j l. refl) ks k

pub in_common : (ks js : List ℕ) (k : ℕ) → In ks k → In js k → In (common ks js) k
in_common ks js k i j = count_in (common ks js) k (omega (arith, rw j at (count_common ks js k), in_count ks k i))

-- with those that it lacks, these are ks
pub count_parted : (ks js : List ℕ) (k : ℕ) → count_of eqb k (common ks js) + count_of eqb k (without ks js) ≡ count_of eqb k ks
count_parted ks js k =
    bool_cases (mem k js)
    (λ t. omega (arith, rw t at (count_common ks js k), rw t at (count_without ks js k)))
    (λ t. omega (arith, rw t at (count_common ks js k), rw t at (count_without ks js k)))

pub common_in : (ks js : List ℕ) (k : ℕ) → In (common ks js) k → In ks k × In js k
common_in ks js k i = (
  count_in ks k (omega (arith, in_count (common ks js) k i, count_parted ks js k)),
  bool_cases (mem k js) (λ t. t) (λ t. absurd (omega (arith, in_count (common ks js) k i, rw t at (count_common ks js k)))),
)

pub length_parted : (ks js : List ℕ) → length (common ks js) + length (without ks js) ≡ length ks
length_parted [] js = refl
length_parted (k ∷ ks) js =
    bool_cases (mem k js)
    (λ t. rw t (omega (arith, length_parted ks js)))
    (λ t. rw t (omega (arith, length_parted ks js)))

pub common_append : (a b js : List ℕ) → common (a ++ b) js ≡ common a js ++ common b js
common_append [] b js = refl
common_append (k ∷ a) b js = bool_cases (mem k js) (λ t. rw t (ap {B = List ℕ} (λ l. k ∷ l) (common_append a b js))) (λ t. rw t (common_append a b js))

-- js has all of a
pub common_all : (a js : List ℕ) → ((k : ℕ) → In a k → In js k) → common a js ≡ a
common_all [] js h = refl
common_all (k ∷ a) js h = rw (h k (rw (eq-eqb k k refl))) (ap {B = List ℕ} (λ l. k ∷ l) (common_all a js (λ j i. h j (rw i (or-true (eqb j k))))))

-- js has none of b
pub common_none : (b js : List ℕ) → ((k : ℕ) → In b k → mem k js ≡ false) → common b js ≡ []
common_none [] js h = refl
common_none (k ∷ b) js h = rw (h k (rw (eq-eqb k k refl))) (common_none b js (λ j i. h j (rw i (or-true (eqb j k)))))

-- ---- a kind of a list that is not empty

pub head_in : (l : List ℕ) → 1 ≤ length l → In l (head_kind l)
head_in [] h = absurd (omega arith)
head_in (k ∷ l) h = rw (eq-eqb k k refl)

pub head_in_joined : (l m : List ℕ) → 1 ≤ length l → In l (head_kind (l ++ m))
head_in_joined [] m h = absurd (omega arith)
head_in_joined (k ∷ l) m h = rw (eq-eqb k k refl)

pub head_first : (l : List ℕ) → head_kind l ≡ get_or l 0 0
head_first [] = refl
head_first (k ∷ l) = refl

pub length_one : (l : List ℕ) → length l ≡ 1 → l ≡ head_kind l ∷ []
length_one [] e = absurd (omega arith)
length_one (k ∷ []) e = refl
length_one (k ∷ j ∷ l) e = absurd (omega arith)

pub in_length : (l : List ℕ) (k : ℕ) → In l k → 1 ≤ length l
in_length [] k i = absurd (false≢true i)
in_length (j ∷ l) k i = omega arith

pub all_true : (p : ℕ → Bool) (l : List ℕ) → ((k : ℕ) → In l k → p k ≡ true) → all_of p l ≡ true
all_true p [] f = refl
all_true p (j ∷ l) f = rw (f j (rw (eq-eqb j j refl)), all_true p l (λ k i. f k (rw i (or-true (eqb k j)))))

pub all_joined : (p : ℕ → Bool) (a b : List ℕ) → all_of p (a ++ b) ≡ (all_of p a && all_of p b)
all_joined p [] b = refl
all_joined p (k ∷ a) b = bool_cases (p k) (λ t. rw t (all_joined p a b)) (λ t. rw t)

-- ---- the kind at a place

pub at_in : (l : List ℕ) (i : ℕ) → i < length l → In l (get_or l i 0)
at_in l i h = count_in l (get_or l i 0) (count_at_law eqb (λ k. eq-eqb k k refl) 0 l i h)

-- of distinct kinds, the one at a place is not among those before it
pub distinct_new : (l : List ℕ) → Distinct l → (i : ℕ) → i < length l → mem (get_or l i 0) (take i l) ≡ false
distinct_new l d i h =
    let k = get_or l i 0 in
    let e = ap (count_of eqb k) (take-append-drop i l) in
    let c = ap (count_of eqb k) (drop-cons l i 0 h) in
    not_true (mem k (take i l)) (λ t. omega (arith, d k, in_count (take i l) k t, count_append eqb k (take i l) (drop i l), self_count k))

-- ---- membership in lists joined, and in a part in front

pub mem_append : (k : ℕ) (a b : List ℕ) → mem k (a ++ b) ≡ (mem k a || mem k b)
mem_append k [] b = refl
mem_append k (j ∷ a) b = rw (mem_append k a b) (sym (or_assoc (eqb k j) (mem k a) (mem k b)))

pub in_left : (a b : List ℕ) (k : ℕ) → In a k → In (a ++ b) k
in_left a b k h = rw (mem_append k a b, h)

pub in_right : (a b : List ℕ) (k : ℕ) → In b k → In (a ++ b) k
in_right a b k h = rw (mem_append k a b, h) (or-true (mem k a))

pub in_cases : {P : Type 0} (a b : List ℕ) (k : ℕ) → In (a ++ b) k → (In a k → P) → (In b k → P) → P
in_cases a b k h = or_cases (mem k a) (mem k b) (sym (mem_append k a b) ∙ h)

pub not_in_parts : (k : ℕ) (a b : List ℕ) → mem k (a ++ b) ≡ false → (mem k a ≡ false) × (mem k b ≡ false)
not_in_parts k a b e =
    let h = sym (mem_append k a b) ∙ e in
    (or_false (mem k a) (mem k b) h, or_false_right (mem k a) (mem k b) h)

pub mem_take : (k n : ℕ) (l : List ℕ) → mem k (take n l) ≡ true → mem k l ≡ true
mem_take k n l m = ap (mem k) (sym (take-append-drop n l)) ∙ in_left (take n l) (drop n l) k m

pub mem_take_le : (k : ℕ) (ks : List ℕ) (m n : ℕ) → m ≤ n → mem k (take m ks) ≡ true → mem k (take n ks) ≡ true
mem_take_le k ks m n h t = mem_take k m (take n ks) (ap (mem k) (take-take m n ks h) ∙ t)

pub not_in_take : (k : ℕ) (ks : List ℕ) (m n : ℕ) → m ≤ n → mem k (take n ks) ≡ false → mem k (take m ks) ≡ false
not_in_take k ks m n h t = not_true (mem k (take m ks)) (λ u. true≢false (sym (mem_take_le k ks m n h u) ∙ t))

pub in_one : (k j : ℕ) → In (j ∷ []) k → k ≡ j
in_one k j i = or_cases (eqb k j) false i (λ t. eqb-true k j t) (λ t. absurd (false≢true t))

pub known_snoc : (kinds l : List ℕ) (k : ℕ) → In kinds k → ((j : ℕ) → In l j → In kinds j) → (j : ℕ) → In (l ++ (k ∷ [])) j → In kinds j
known_snoc kinds l k known h j i = in_cases l (k ∷ []) j i (h j) (λ u. rw (in_one j k u) known)

pub not_both : (a b : List ℕ) (k : ℕ) → (In a k → mem k b ≡ false) → In b k → mem k a ≡ false
not_both a b k h i = bool_cases (mem k a) (λ t. absurd (true≢false (sym i ∙ h t))) (λ t. t)

pub in_at : (l : List ℕ) (k : ℕ) → In l k → (i : ℕ) × (i < length l) × (get_or l i 0 ≡ k)
in_at l k t = let p = count_place eqb k l (in_count l k t) in (place eqb k l, p, get_d_place eqb eqb-true k 0 l p)

-- ---- tests of all and of some

pub all_in : (p : ℕ → Bool) (ks : List ℕ) → all_of p ks ≡ true → (k : ℕ) → In ks k → p k ≡ true
all_in p [] t k i = cc
all_in p (j ∷ ks) t k i =
    or_cases (eqb k j) (mem k ks) i
    (λ u. rw (eqb-true k j u) (and_left (p j) (all_of p ks) t))
    (λ u. all_in p ks (and_right (p j) (all_of p ks) t) k u)

-- a kind of the list of which p does not hold
pub record Missing (p : ℕ → Bool) (ks : List ℕ) : Type 0 where
  pub kind : ℕ
  pub is_in : In ks kind
  pub fails : p kind ≡ false

pub all_missing : (p : ℕ → Bool) (ks : List ℕ) → all_of p ks ≡ false → Missing p ks
all_missing p [] t = absurd (true≢false t)
all_missing p (j ∷ ks) t = go (p j) refl t (all_missing p ks)
  where
    go : (b : Bool) → p j ≡ b → (b && all_of p ks) ≡ false → (all_of p ks ≡ false → Missing p ks) → Missing p (j ∷ ks)
    go true e u r = let m = r u in record { kind = m.kind; is_in = rw m.is_in (or-true (eqb m.kind j)); fails = m.fails }
    go false e u r = record { kind = j; is_in = rw (eq-eqb j j refl); fails = e }

-- numbers that are all n at most
pub all_most : (n : ℕ) (l : List ℕ) → all_of (λ x. leb x n) l ≡ true → (i : ℕ) → get_or l i 0 ≤ n
all_most n [] t i = zero-le
all_most n (x ∷ l) t zero = leb-true x n (and_left (leb x n) (all_of (λ y. leb y n) l) t)
all_most n (x ∷ l) t (suc i) = all_most n l (and_right (leb x n) (all_of (λ y. leb y n) l) t) i

pub any_in : (p : ℕ → Bool) (ks : List ℕ) (k : ℕ) → In ks k → p k ≡ true → any_of p ks ≡ true
any_in p [] k i t = i
any_in p (j ∷ ks) k i t =
    or_cases (eqb k j) (mem k ks) i
    (λ u. rw (ap p (sym (eqb-true k j u)), t))
    (λ u. rw (any_in p ks k u t) (or-true (p j)))

-- and a kind of the list of which p holds
pub any_at : (p : ℕ → Bool) (ks : List ℕ) → any_of p ks ≡ true → (k : ℕ) × In ks k × (p k ≡ true)
any_at p [] t = absurd (false≢true t)
any_at p (j ∷ ks) t =
    or_cases (p j) (any_of p ks) t
    (λ u. (j, rw (eq-eqb j j refl), u))
    (λ u. let r = any_at p ks u in (r.0, rw r.1 (or-true (eqb r.0 j)), r.2))

pub any_more : (p q : ℕ → Bool) → ((k : ℕ) → p k ≡ true → q k ≡ true) → (ks : List ℕ) → any_of p ks ≡ true → any_of q ks ≡ true
any_more p q f [] h = h
any_more p q f (k ∷ ks) h =
    or_cases (p k) (any_of p ks) h (λ t. rw (f k t)) (λ t. rw (any_more p q f ks t) (or-true (q k)))

pub any_none : (p : ℕ → Bool) (l : List ℕ) (x : ℕ) → any_of p l ≡ false → mem x l ≡ true → p x ≡ false
any_none p [] x h m = absurd (false≢true m)
any_none p (y ∷ l) x h m = go (p y) refl h (any_none p l x)
  where
    go : (b : Bool) → p y ≡ b → (b || any_of p l) ≡ false → (any_of p l ≡ false → mem x l ≡ true → p x ≡ false) → p x ≡ false
    go true e h r = absurd (true≢false h)
    go false e h r = or_cases (eqb x y) (mem x l) m (λ t. ap p (eqb-true x y t) ∙ e) (λ t. r h t)

pub any_append : (p : ℕ → Bool) (a b : List ℕ) → any_of p (a ++ b) ≡ (any_of p a || any_of p b)
any_append p [] b = refl
any_append p (k ∷ a) b = rw (any_append p a b) (sym (or_assoc (p k) (any_of p a) (any_of p b)))

pub meets_none : (ks : List ℕ) → meets ks [] ≡ false
meets_none [] = refl
meets_none (k ∷ ks) = meets_none ks

pub meets_one : (k : ℕ) (ks : List ℕ) → meets (k ∷ []) ks ≡ mem k ks
meets_one k ks = or-none (mem k ks)

pub meets_left : (ks a b : List ℕ) → meets ks a ≡ true → meets ks (a ++ b) ≡ true
meets_left ks a b h = any_more (λ k. mem k a) (λ k. mem k (a ++ b)) (λ k i. in_left a b k i) ks h

-- no kind in common
pub unmet : (ks js : List ℕ) (x : ℕ) → meets ks js ≡ false → 1 ≤ count_of eqb x ks → count_of eqb x js ≡ 0
unmet ks js x m h = out_count js x (any_none (λ k. mem k js) ks x m (count_in ks x h))

pub unmet_in : (ks js : List ℕ) → meets ks js ≡ false → (k : ℕ) → In js k → mem k ks ≡ false
unmet_in ks js m k i = not_true (mem k ks) (λ t. true≢false (sym (any_in (λ y. mem y js) ks k t i) ∙ m))

-- ---- a list within another

-- where each of js is in ks, and js has each once, js has no kind more often
pub within_counts : (js ks : List ℕ) → Distinct js → within js ks ≡ true → (k : ℕ) → count_of eqb k js ≤ count_of eqb k ks
within_counts js ks d w k =
    by_lt 0 (count_of eqb k js) (λ h. omega (arith, d k, in_count ks k (all_in (λ j. mem j ks) js w k (count_in js k h)))) (λ h. omega arith)

-- lists of the same kinds, each once, are as long
pub same_length : (ks js : List ℕ) → Distinct ks → Distinct js → same_set ks js ≡ true → length ks ≡ length js
same_length ks js dk dj s =
    as_long ks js (λ k. omega (arith, within_counts ks js dk (and_left (within ks js) (within js ks) s) k, within_counts js ks dj (and_right (within ks js) (within js ks) s) k))

-- ks is as long as js and what js lacks
pub without_length : (ks js : List ℕ) → Distinct ks → Distinct js → within js ks ≡ true → length js + length (without ks js) ≡ length ks
without_length ks js dk dj w =
    sym (length-append js (without ks js))
    ∙ as_long (js ++ without ks js) ks
    (λ k. count_append eqb k js (without ks js)
    ∙ bool_cases (mem k js)
    (λ t. omega (arith, rw t at (count_without ks js k), in_count js k t, dj k, dk k, within_counts js ks dj w k))
    (λ t. omega (arith, rw t at (count_without ks js k), out_count js k t)))

-- a list within another has its kinds there
pub within_in : (js ks : List ℕ) → within js ks ≡ true → (k : ℕ) → In js k → In ks k
within_in js ks w = all_in (λ j. mem j ks) js w

-- of two lists joined, the first is within where both are
pub within_left : (a b ks : List ℕ) → within (a ++ b) ks ≡ true → within a ks ≡ true
within_left a b ks w = and_left (within a ks) (within b ks) (sym (all_joined (λ j. mem j ks) a b) ∙ w)

-- where ks is within js, the kinds of js that ks has are as many as ks
pub common_length : (js ks : List ℕ) → Distinct ks → within ks js ≡ true → length ks ≤ length (common js ks)
common_length js ks d w =
    shorter ks (common js ks)
    (λ k. bool_cases (mem k ks)
    (λ t. omega (arith, within_counts ks js d w k, rw t at (count_common js ks k)))
    (λ t. omega (arith, out_count ks k t)))

-- a list that is not within js has a kind that js lacks
pub lacks_some : (ks js : List ℕ) → within ks js ≡ false → 1 ≤ length (without ks js)
lacks_some ks js n =
    let x : Missing (λ k. mem k js) ks = all_missing (λ k. mem k js) ks n in
    in_length (without ks js) x.kind (in_without ks js x.kind x.is_in x.fails)

-- ---- equal sets

pub same_to : (ks js : List ℕ) → same_set ks js ≡ true → (k : ℕ) → In ks k → In js k
same_to ks js s = all_in (λ j. mem j js) ks (and_left (within ks js) (within js ks) s)

pub same_from : (ks js : List ℕ) → same_set ks js ≡ true → (k : ℕ) → In js k → In ks k
same_from ks js s = all_in (λ j. mem j ks) js (and_right (within ks js) (within js ks) s)

pub all_same : (p : ℕ → Bool) (ks js : List ℕ) → same_set ks js ≡ true → all_of p ks ≡ all_of p js
all_same p ks js s =
    bool_cases (all_of p ks)
    (λ t. t ∙ sym (all_true p js (λ k i. all_in p ks t k (same_from ks js s k i))))
    (λ t. t ∙ sym (not_true (all_of p js) (λ u. true≢false (sym (all_true p ks (λ k i. all_in p js u k (same_to ks js s k i))) ∙ t))))

-- a kind in one and not in the other
pub differ_left : (ks js : List ℕ) (k : ℕ) → In ks k → mem k js ≡ false → same_set ks js ≡ false
differ_left ks js k i n = not_true (same_set ks js) (λ t. true≢false (sym (same_to ks js t k i) ∙ n))

pub differ_right : (ks js : List ℕ) (k : ℕ) → In js k → mem k ks ≡ false → same_set ks js ≡ false
differ_right ks js k i n = not_true (same_set ks js) (λ t. true≢false (sym (same_from ks js t k i) ∙ n))

-- ---- a turn of a loop over a slice: what is left is `drop i l`

pub mem_hit : (x : ℕ) (l : List ℕ) (i : ℕ) → i < length l → x ≡ get_or l i 0 → mem x (drop i l) ≡ true
mem_hit x l i h e = rw (drop_step l i 0 h, eq-eqb x (get_or l i 0) e)

pub mem_miss : (x : ℕ) (l : List ℕ) (i : ℕ) → i < length l → (x ≡ get_or l i 0 → ⊥) → mem x (drop i l) ≡ mem x (drop (i + 1) l)
mem_miss x l i h e = rw (drop_step l i 0 h, ne_eqb x (get_or l i 0) e)

pub all_hit : (p : ℕ → Bool) (l : List ℕ) (i : ℕ) → i < length l → p (get_or l i 0) ≡ true → all_of p (drop i l) ≡ all_of p (drop (i + 1) l)
all_hit p l i h e = rw (drop_step l i 0 h, e)

pub all_miss : (p : ℕ → Bool) (l : List ℕ) (i : ℕ) → i < length l → p (get_or l i 0) ≡ false → all_of p (drop i l) ≡ false
all_miss p l i h e = rw (drop_step l i 0 h, e)

pub any_hit : (p : ℕ → Bool) (l : List ℕ) (i : ℕ) → i < length l → p (get_or l i 0) ≡ true → any_of p (drop i l) ≡ true
any_hit p l i h e = rw (drop_step l i 0 h, e)

pub any_miss : (p : ℕ → Bool) (l : List ℕ) (i : ℕ) → i < length l → p (get_or l i 0) ≡ false → any_of p (drop i l) ≡ any_of p (drop (i + 1) l)
any_miss p l i h e = rw (drop_step l i 0 h, e)

-- those of hs that ks lacks, put into the front of out
pub without_held : (ks hs out : List ℕ) (i n : ℕ) → i < length hs → mem (get_or hs i 0) ks ≡ true
    → take n out ++ without (drop i hs) ks ≡ take n out ++ without (drop (i + 1) hs) ks
without_held ks hs out i n h e = rw (drop_step hs i 0 h, e)

pub without_new : (ks hs out : List ℕ) (i n : ℕ) → i < length hs → n < length out → mem (get_or hs i 0) ks ≡ false
    → take n out ++ without (drop i hs) ks ≡ take (n + 1) (set out n (get_or hs i 0)) ++ without (drop (i + 1) hs) ks
without_new ks hs out i n h o e = rw (drop_step hs i 0 h, e) (put_next out (without (drop (i + 1) hs) ks) n (get_or hs i 0) o)

pub without_end : (ks hs out : List ℕ) (n : ℕ) → take n out ++ without (drop (length hs) hs) ks ≡ take n out
without_end ks hs out n = rw drop-length (append-nil (take n out))

-- those of ks that hs has, put into the front of out
pub common_next : (ks hs out : List ℕ) (i n : ℕ) → i < length ks → n < length out → mem (get_or ks i 0) hs ≡ true
    → take n out ++ common (drop i ks) hs ≡ take (n + 1) (set out n (get_or ks i 0)) ++ common (drop (i + 1) ks) hs
common_next ks hs out i n h o e = rw (drop_step ks i 0 h, e) (put_next out (common (drop (i + 1) ks) hs) n (get_or ks i 0) o)

pub common_past : (ks hs out : List ℕ) (i n : ℕ) → i < length ks → mem (get_or ks i 0) hs ≡ false
    → take n out ++ common (drop i ks) hs ≡ take n out ++ common (drop (i + 1) ks) hs
common_past ks hs out i n h e = rw (drop_step ks i 0 h, e)

pub common_end : (ks hs out : List ℕ) (n : ℕ) → take n out ++ common (drop (length ks) ks) hs ≡ take n out
common_end ks hs out n = rw drop-length (append-nil (take n out))

-- ---- a list without the kinds of another

pub unmet_all : (ks js : List ℕ) → ((k : ℕ) → In ks k → mem k js ≡ false) → meets ks js ≡ false
unmet_all ks js h = not_true (meets ks js) (λ t. let a = any_at (λ k. mem k js) ks t in true≢false (sym a.2 ∙ h a.0 a.1))

pub without_append : (a b js : List ℕ) → without (a ++ b) js ≡ without a js ++ without b js
without_append [] b js = refl
without_append (k ∷ a) b js = bool_cases (mem k js) (λ t. rw t (without_append a b js)) (λ t. rw t (ap {B = List ℕ} (λ l. k ∷ l) (without_append a b js)))

-- js has all of a
pub without_all : (a js : List ℕ) → ((k : ℕ) → In a k → In js k) → without a js ≡ []
without_all [] js h = refl
without_all (k ∷ a) js h = rw (h k (rw (eq-eqb k k refl))) (without_all a js (λ j i. h j (rw i (or-true (eqb j k)))))

-- js has none of b
pub without_none : (b js : List ℕ) → ((k : ℕ) → In b k → mem k js ≡ false) → without b js ≡ b
without_none [] js h = refl
without_none (k ∷ b) js h = rw (h k (rw (eq-eqb k k refl))) (ap {B = List ℕ} (λ l. k ∷ l) (without_none b js (λ j i. h j (rw i (or-true (eqb j k))))))

-- of distinct kinds those behind are not among those before
pub before_free : (a b : List ℕ) → Distinct (a ++ b) → (k : ℕ) → In b k → mem k a ≡ false
before_free a b d k i = not_both a b k (distinct_apart a b d k) i

-- a group's kinds without those of the group before are its ring
pub without_ring : (acc ring : List ℕ) → Distinct (acc ++ ring) → without (acc ++ ring) acc ≡ ring
without_ring acc ring d =
    without_append acc ring acc
    ∙ ap (λ (l : List ℕ). l ++ without ring acc) (without_all acc acc (λ k i. i))
    ∙ without_none ring acc (before_free acc ring d)
