-- Where a group stands in the layout: a layout with the families before some position filled in, and one with the groups before some position filled
-- in. A walk over families, or over a family's groups, goes from one to the next. Assumes nothing.
use mathlib.Core.Path.{◌≡◌, refl, ap, sym, ◌∙◌, subst}
use mathlib.Core.List.{List, [], ◌∷◌, ◌++◌}
use Prim.Native.Nat.{ℕ, suc, ◌+◌, ◌-◌, ◌<◌}
use native.Mathlib.Omega.{arith}
use native.Mathlib.Nat.{zero-add, add-zero, add-suc, suc-add}
use borrow.Author.Tests.{lt-ltb, le-ltb}
use lib.ListN.{length, get_or, get_or-append}
use lib.Seq.{get_or-append-add}
use Rattle.model.specs.Model.{Group, Family, groups_of}
use Rattle.model.proofs.BoolLaws.{by_lt}
use Rattle.group.specs.Flat.{Located, nowhere, family_groups, group_list, located, with_count, set_in, set_count}

length_flatten_family : (first top : ℕ) (acc : List ℕ) (f : Family) → length (family_groups first top acc f) ≡ length f
length_flatten_family first top acc [] = refl
length_flatten_family first top acc (r ∷ rs) = ap suc (length_flatten_family first top (acc ++ r.new_kinds) rs)

-- ---- a group of the first family, or of a later one

pub first_group : (p : ℕ) (f : Family) (fs : List Family) (i : ℕ) → i < length f → get_or (group_list p (f ∷ fs)) i nowhere ≡ get_or (family_groups p (p + length f) [] f) i nowhere
first_group p f fs i h =
    get_or-append (family_groups p (p + length f) [] f) (group_list (p + length f) fs) nowhere i (omega (arith, length_flatten_family p (p + length f) [] f))

pub later_group : (p : ℕ) (f : Family) (fs : List Family) (i : ℕ) → get_or (group_list p (f ∷ fs)) (length f + i) nowhere ≡ get_or (group_list (p + length f) fs) i nowhere
later_group p f fs i =
    ap (λ (n : ℕ). get_or (group_list p (f ∷ fs)) (n + i) nowhere) (sym (length_flatten_family p (p + length f) [] f))
    ∙ get_or-append-add (family_groups p (p + length f) [] f) (group_list (p + length f) fs) i nowhere

-- what holds of a group in the first family, and of one past it
pub by_family : (P : Located → ℕ → Type 0) (p : ℕ) (f : Family) (fs : List Family) (i : ℕ)
    → (i < length f → P (get_or (family_groups p (p + length f) [] f) i nowhere) i)
    → ((j : ℕ) → i ≡ length f + j → P (get_or (group_list (p + length f) fs) j nowhere) i)
    → P (get_or (group_list p (f ∷ fs)) i nowhere) i
by_family P p f fs i here later =
    by_lt i (length f) (λ h. rw (first_group p f fs i h) (here h))
    (λ h.
    let e : i ≡ length f + (i - length f) = omega arith in
    subst (λ (l : Located). P l i) (sym (ap (λ (n : ℕ). get_or (group_list p (f ∷ fs)) n nowhere) e ∙ later_group p f fs (i - length f))) (later (i - length f) e))

-- ---- a count is set there

pub set_here : (g c : ℕ) (f : Family) (fs : List Family) → g < length f → set_count g c (f ∷ fs) ≡ set_in g c f ∷ fs
set_here g c f fs h = rw (lt-ltb g (length f) h)

pub set_later : (g c : ℕ) (f : Family) (fs : List Family) → set_count (length f + g) c (f ∷ fs) ≡ f ∷ set_count g c fs
set_later g c f fs =
    let back : length f + g - length f ≡ g = omega arith in
    rw (le-ltb (length f + g) (length f) (omega arith), back)

-- ---- the families before position p are filled in

pub record Front (p : ℕ) : Type 0 where
  pub build : List Family → List Family
  pub locate : (fs : List Family) (i : ℕ) → i < groups_of fs → located (build fs) (p + i) ≡ get_or (group_list p fs) i nowhere
  pub put : (fs : List Family) (i c : ℕ) → i < groups_of fs → set_count (p + i) c (build fs) ≡ build (set_count i c fs)

abbrev pub whole : Front 0
whole =
    record {
      build = λ fs. fs;
      locate = λ fs i h. ap (located fs) (zero-add i);
      put = λ fs i c h. ap (λ (n : ℕ). set_count n c fs) (zero-add i);
    }

-- one family more
abbrev pub past : {p q : ℕ} → Front p → (f : Family) → q ≡ p + length f → Front q
past {p} {q} F f e =
    record {
      build = λ fs. F.build (f ∷ fs);
      locate = λ fs i h.
          let n : q + i ≡ p + (length f + i) = omega arith in
          ap (located (F.build (f ∷ fs))) n ∙ F.locate (f ∷ fs) (length f + i) (omega arith)
          ∙ later_group p f fs i ∙ ap (λ (m : ℕ). get_or (group_list m fs) i nowhere) (sym e);
      put = λ fs i c h.
          let n : q + i ≡ p + (length f + i) = omega arith in
          ap (λ (m : ℕ). set_count m c (F.build (f ∷ fs))) n ∙ F.put (f ∷ fs) (length f + i) c (omega arith) ∙ ap F.build (set_later i c f fs);
    }

-- ---- the groups before position p are filled in, and the families after this one; acc are the kinds of the group before

pub record Hole (acc : List ℕ) (first top p : ℕ) : Type 0 where
  pub build : Family → List Family
  pub locate : (rs : Family) → p + length rs ≡ top → (i : ℕ) → i < length rs → located (build rs) (p + i) ≡ get_or (family_groups first top acc rs) i nowhere
  pub put : (rs : Family) (i c : ℕ) → i < length rs → set_count (p + i) c (build rs) ≡ build (set_in i c rs)

abbrev pub opened : {p : ℕ} → Front p → (top : ℕ) (fs : List Family) → Hole [] p top p
opened {p} F top fs =
    record {
      build = λ rs. F.build (rs ∷ fs);
      locate = λ rs e i h.
          F.locate (rs ∷ fs) i (omega arith) ∙ first_group p rs fs i h ∙ ap (λ (t : ℕ). get_or (family_groups p t [] rs) i nowhere) e;
      put = λ rs i c h. F.put (rs ∷ fs) i c (omega arith) ∙ ap F.build (set_here i c rs fs h);
    }

-- one group more
abbrev pub next : {acc : List ℕ} {first top p : ℕ} → Hole acc first top p → (r : Group) → Hole (acc ++ r.new_kinds) first top (suc p)
next {acc} {first} {top} {p} H r =
    record {
      build = λ rs. H.build (r ∷ rs);
      locate = λ rs e i h.
          let n : suc p + i ≡ p + suc i = suc-add p i ∙ sym (add-suc p i) in
          ap (located (H.build (r ∷ rs))) n ∙ H.locate (r ∷ rs) (omega arith) (suc i) (omega arith);
      put = λ rs i c h.
          let n : suc p + i ≡ p + suc i = suc-add p i ∙ sym (add-suc p i) in
          ap (λ (m : ℕ). set_count m c (H.build (r ∷ rs))) n ∙ H.put (r ∷ rs) (suc i) c (omega arith);
    }

-- what stands at p
module _ {acc : List ℕ} {first top p : ℕ} (H : Hole acc first top p) (r : Group) (rs : Family) where
  abbrev pub Here : Located
  Here = record { kinds = acc ++ r.new_kinds; new_kinds = r.new_kinds; count = r.count; first = first; top = top }

  pub here : p + suc (length rs) ≡ top → located (H.build (r ∷ rs)) p ≡ Here
  here e = ap (located (H.build (r ∷ rs))) (sym (add-zero p)) ∙ H.locate (r ∷ rs) e 0 (omega arith)

  pub put_here : (c : ℕ) → set_count p c (H.build (r ∷ rs)) ≡ H.build (with_count c r ∷ rs)
  put_here c = ap (λ (m : ℕ). set_count m c (H.build (r ∷ rs))) (sym (add-zero p)) ∙ H.put (r ∷ rs) 0 c (omega arith)
