-- The words after a swap, an append, a replacement and a removal, and what they mean. Assumes nothing.
use mathlib.Core.Path.{◌≡◌, refl, sym, ap, ◌∙◌}
use mathlib.Core.Logic.{◌≢◌}
use mathlib.Core.List.{List, [], ◌∷◌, ◌++◌}
use Prim.Native.Nat.{ℕ, ◌+◌, ◌-◌, ◌≤◌, ◌<◌}
use native.Mathlib.Omega.{arith}
use lib.ListN.{length, get_or, set, take}
use lib.Seq.{take_all, take-take, length-take-le, take-set-le}
use Rattle.words.specs.Offsets.{ROWS_LEN}
use Rattle.words.specs.declared.Entity.{Entity}
use Rattle.words.specs.declared.Shape.{Shape}
use Rattle.values.specs.Values.{value_at}
use Rattle.values.proofs.Places.{value_stores}
use Rattle.model.specs.Lists.{cut_at}
use Rattle.model.specs.Model.{Row, SparseSet, no_row}
use Rattle.words.proofs.Tables.{table_swap, table_set, table_snoc, table_removed}
use Rattle.words.specs.Stores.{stores}
use Rattle.words.proofs.Stores.{miss, hit, length_stores}
use Rattle.words.proofs.Links.{linked_exchanged, linked_appended, linked_removed}
use Rattle.component.specs.SparseSet.{length_of, index_at, version_at, place_of, held_of, row, row_at, rows, ColumnSound}
use Rattle.component.specs.Stored.{RowsChanged, PutsValue, SwapsValues, swap_rows, row_entity, entity_stores, lookup_stores, place_stores, clear_stores, Absent, valued, popped}
use Rattle.component.proofs.Meaning.{length_rows, get_d_rows, row_is, rows_apart, absent_free, absent_room, front_sound}

-- ---- no change, and a change under another name

pub changed_none : (z : Shape) (f : SparseSet → SparseSet) (w : List ℕ) → ColumnSound z w → rows z w ≡ f (rows z w) → RowsChanged z f w w
changed_none z f w s e = record { sound = s; size = refl; becomes = e; kept = λ i l h. refl }

pub changed_as : (z : Shape) (f g : SparseSet → SparseSet) (w w' : List ℕ) → RowsChanged z f w w' → f (rows z w) ≡ g (rows z w) → RowsChanged z g w w'
changed_as z f g w w' c e = record { sound = c.sound; size = c.size; becomes = c.becomes ∙ e; kept = c.kept }

pub changed_then : (z : Shape) (f g : SparseSet → SparseSet) (w w' w'' : List ℕ) → RowsChanged z f w w' → RowsChanged z g w' w'' → RowsChanged z (λ (rs : SparseSet). g (f rs)) w w''
changed_then z f g w w' w'' c d =
    record {
      sound = d.sound;
      size = d.size ∙ c.size;
      becomes = d.becomes ∙ ap g c.becomes;
      kept = λ i l h. d.kept i l h ∙ c.kept i l h;
    }

-- ---- swap

abbrev swap_stores : Shape → ℕ → ℕ → List ℕ → List (ℕ × ℕ)
swap_stores z a b w =
    entity_stores b (index_at w a) (version_at w a) ++ (entity_stores a (index_at w b) (version_at w b)
    ++ (place_stores z (index_at w a) b ++ place_stores z (index_at w b) a))

module _ (z : Shape) (w : List ℕ) (s : ColumnSound z w) (a b : ℕ) (ha : a < length_of w) (hb : b < length_of w) (ab : a ≢ b) where
  swapped_sound : ColumnSound z (stores w (swap_stores z a b w))
  swapped_sound =
      let ss = swap_stores z a b w in
      let w' = stores w ss in
      let L = s.linked in
      let r = L.room in
      let x = index_at w a in
      let y = index_at w b in
      let hx = (L.tied a ha).below in
      let hy = (L.tied b hb).below in
      let xy : x ≢ y = rows_apart z w s a b ha hb ab in
      let e : length_of w' ≡ length_of w = miss w ss 0 (omega arith) in
      record {
        size = length_stores w ss ∙ s.size;
        shaped = s.shaped;
        linked =
            rw e
            (linked_exchanged z.capacity (length_of w) (index_at w) (version_at w) (place_of z w) (held_of z w) L
            (index_at w') (version_at w') (place_of z w') (held_of z w') a b ha hb ab
            (hit w ss 2 _ _ (omega arith) (omega arith))
            (hit w ss 0 _ _ (omega arith) (omega arith))
            (λ i hi na nb. miss w ss _ (omega arith))
            (hit w ss 3 _ _ (omega arith) (omega arith))
            (hit w ss 1 _ _ (omega arith) (omega arith))
            (λ i hi na nb. miss w ss _ (omega arith))
            (hit w ss 4 _ _ (omega arith) (omega arith))
            (hit w ss 5 _ _ (omega arith) (omega arith))
            (λ i hi na nb. miss w ss _ (omega arith))
            (λ i hi. miss w ss _ (omega arith)));
      }

  swapped_rows : (w' : List ℕ) → SwapsValues z a b (stores w (swap_stores z a b w)) w' → rows z w' ≡ swap_rows a b (rows z w)
  unfolding rows
  swapped_rows w' c =
      let ss = swap_stores z a b w in
      let L = s.linked in
      let r = L.room in
      let hx = (L.tied a ha).below in
      let hy = (L.tied b hb).below in
      let f = c.front.same in
      let same : (i : ℕ) → value_at z (stores w ss) i ≡ value_at z w i = λ i. value_stores z w ss (omega arith) i in
      let e : length_of w' ≡ length_of w = f 0 (omega arith) ∙ miss w ss 0 (omega arith) in
      rw e
      (table_swap no_row (length_of w) (row_at z w) (row_at z w') a b ha hb
      (row_is z w' a _ _ _ (f _ (omega arith) ∙ hit w ss 2 _ _ (omega arith) (omega arith)) (f _ (omega arith) ∙ hit w ss 3 _ _ (omega arith) (omega arith)) (c.first ∙ same b))
      (row_is z w' b _ _ _ (f _ (omega arith) ∙ hit w ss 0 _ _ (omega arith) (omega arith)) (f _ (omega arith) ∙ hit w ss 1 _ _ (omega arith) (omega arith)) (c.second ∙ same a))
      (λ i hi na nb. row_is z w' i _ _ _ (f _ (omega arith) ∙ miss w ss _ (omega arith)) (f _ (omega arith) ∙ miss w ss _ (omega arith)) (c.others i (omega arith) na nb ∙ same i)))

  swapped : (w' : List ℕ) → SwapsValues z a b (stores w (swap_stores z a b w)) w' → RowsChanged z (swap_rows a b) w w'
  swapped w' c =
      let ss = swap_stores z a b w in
      record {
        sound = front_sound z (stores w ss) w' swapped_sound c.front;
        size = c.front.size ∙ length_stores w ss;
        becomes = swapped_rows w' c;
        kept = λ i l h. c.front.same i (omega arith) ∙ miss w ss i (omega arith);
      }

  -- the steps, one after the other
  pub swapped_by : (w₁ w₂ w₃ w₄ w₅ : List ℕ) (x v : ℕ) (o : Entity) → index_at w a ≡ x → version_at w a ≡ v → o ≡ row_entity w b
      → w₁ ≡ stores w (entity_stores b x v) → w₂ ≡ stores w₁ (entity_stores a o.index o.version)
      → w₃ ≡ stores w₂ (place_stores z x b) → w₄ ≡ stores w₃ (place_stores z o.index a) → SwapsValues z a b w₄ w₅
      → RowsChanged z (swap_rows a b) w w₅
  swapped_by w₁ w₂ w₃ w₄ w₅ x v o ex ev eo e₁ e₂ e₃ e₄ c =
      let e : w₄ ≡ stores w (swap_stores z a b w) = rw (e₄, e₃, e₂, e₁, eo, ← ex, ← ev) refl in
      swapped w₅ (rw e at c)

-- ---- append

abbrev append_stores : Shape → ℕ → ℕ → List ℕ → List (ℕ × ℕ)
append_stores z x v w = entity_stores (length_of w) x v ++ (lookup_stores z x (length_of w) v ++ ((ROWS_LEN, length_of w + 1) ∷ []))

module _ (z : Shape) (w : List ℕ) (s : ColumnSound z w) (x v a : ℕ) (hx : x < z.capacity) (hv : 1 ≤ v) (f : Absent x (rows z w)) where
  appended_sound : ColumnSound z (stores w (append_stores z x v w))
  appended_sound =
      let ss = append_stores z x v w in
      let w' = stores w ss in
      let room = absent_room z w s x hx f in
      let e : length_of w' ≡ length_of w + 1 = hit w ss 4 _ _ (omega arith) (omega arith) in
      record {
        size = length_stores w ss ∙ s.size;
        shaped = s.shaped;
        linked =
            rw e
            (linked_appended z.capacity (length_of w) (index_at w) (version_at w) (place_of z w) (held_of z w) s.linked
            (index_at w') (version_at w') (place_of z w') (held_of z w') room x v hx hv (absent_free z w s x hx f)
            (hit w ss 0 _ _ (omega arith) (omega arith))
            (λ i hi. miss w ss _ (omega arith))
            (hit w ss 1 _ _ (omega arith) (omega arith))
            (λ i hi. miss w ss _ (omega arith))
            (hit w ss 2 _ _ (omega arith) (omega arith))
            (λ y hy ne. miss w ss _ (omega arith))
            (hit w ss 3 _ _ (omega arith) (omega arith))
            (λ y hy ne. miss w ss _ (omega arith)));
      }

  appended_rows : (w' : List ℕ) → PutsValue z (length_of w) a (stores w (append_stores z x v w)) w' → rows z w' ≡ rows z w ++ (row x v a ∷ [])
  unfolding rows
  appended_rows w' c =
      let ss = append_stores z x v w in
      let room = absent_room z w s x hx f in
      let g = c.front.same in
      let e : length_of w' ≡ length_of w + 1 = g 0 (omega arith) ∙ hit w ss 4 _ _ (omega arith) (omega arith) in
      rw e
      (table_snoc no_row (row x v a) (length_of w) (row_at z w) (row_at z w')
      (row_is z w' (length_of w) x v a (g _ (omega arith) ∙ hit w ss 0 _ _ (omega arith) (omega arith)) (g _ (omega arith) ∙ hit w ss 1 _ _ (omega arith) (omega arith)) c.here)
      (λ i hi. row_is z w' i _ _ _ (g _ (omega arith) ∙ miss w ss _ (omega arith)) (g _ (omega arith) ∙ miss w ss _ (omega arith)) (c.others i (omega arith) (omega arith) ∙ value_stores z w ss (omega arith) i)))

  pub appended : (w' : List ℕ) → PutsValue z (length_of w) a (stores w (append_stores z x v w)) w' → RowsChanged z (λ (rs : SparseSet). rs ++ (row x v a ∷ [])) w w'
  appended w' c =
      let ss = append_stores z x v w in
      let room = absent_room z w s x hx f in
      record {
        sound = front_sound z (stores w ss) w' appended_sound c.front;
        size = c.front.size ∙ length_stores w ss;
        becomes = appended_rows w' c;
        kept = λ i l h. c.front.same i (omega arith) ∙ miss w ss i (omega arith);
      }

-- ---- replace

module _ (z : Shape) (w w' : List ℕ) (s : ColumnSound z w) (p a : ℕ) (hp : p < length_of w) (c : PutsValue z p a w w') where
  replaced_at : rows z w' ≡ set (rows z w) p (row (index_at w p) (version_at w p) a)
  unfolding rows
  replaced_at =
      let g = c.front.same in
      let e : length_of w' ≡ length_of w = g 0 (omega arith) in
      let r = s.linked.room in
      rw e
      (table_set no_row (row (index_at w p) (version_at w p) a) (length_of w) (row_at z w) (row_at z w') p hp
      (row_is z w' p _ _ a (g _ (omega arith)) (g _ (omega arith)) c.here)
      (λ i hi ne. row_is z w' i _ _ _ (g _ (omega arith)) (g _ (omega arith)) (c.others i (omega arith) ne)))

  pub replaced : RowsChanged z (valued p a) w w'
  replaced =
      record {
        sound = front_sound z w w' s c.front;
        size = c.front.size;
        becomes = replaced_at ∙ ap (λ (r : Row). set (rows z w) p (record { entity = r.entity; value = a })) (sym (get_d_rows z w p hp));
        kept = λ i l h. c.front.same i (omega arith);
      }

-- ---- remove

abbrev remove_stores : Shape → ℕ → List ℕ → List (ℕ × ℕ)
remove_stores z p w =
    entity_stores p (index_at w (length_of w - 1)) (version_at w (length_of w - 1))
    ++ (place_stores z (index_at w (length_of w - 1)) p ++ clear_stores z (index_at w p) (length_of w - 1))

module _ (z : Shape) (w : List ℕ) (s : ColumnSound z w) (p : ℕ) (hp : p < length_of w) where
  removed_sound : ColumnSound z (stores w (remove_stores z p w))
  removed_sound =
      let ss = remove_stores z p w in
      let w' = stores w ss in
      let L = s.linked in
      let r = L.room in
      let k = length_of w in
      let e : length_of w' ≡ k - 1 = hit w ss 4 _ _ (omega arith) (omega arith) in
      let hl : k - 1 < k = omega arith in
      let x = index_at w p in
      let y = index_at w (k - 1) in
      let hx : x < z.capacity = (L.tied p hp).below in
      let hy : y < z.capacity = (L.tied (k - 1) hl).below in
      record {
        size = length_stores w ss ∙ s.size;
        shaped = s.shaped;
        linked =
            rw e
            (linked_removed z.capacity k (index_at w) (version_at w) (place_of z w) (held_of z w) L
            (index_at w') (version_at w') (place_of z w') (held_of z w') p hp
            (λ q. hit w ss 0 _ _ (omega arith) (omega arith))
            (λ i hi ne. miss w ss _ (omega arith))
            (λ q. hit w ss 1 _ _ (omega arith) (omega arith))
            (λ i hi ne. miss w ss _ (omega arith))
            (λ q. hit w ss 2 _ _ (omega arith) (omega arith))
            (λ i hi ne. let b = (L.tied i (omega arith)).below in let d = rows_apart z w s i (k - 1) (omega arith) hl (omega arith) in miss w ss _ (omega arith))
            (hit w ss 3 _ _ (omega arith) (omega arith))
            (λ i hi ne. miss w ss _ (omega arith)));
      }

  module _ (w' : List ℕ) (c : PutsValue z p (value_at z w (length_of w - 1)) (stores w (remove_stores z p w)) w') where
    removed_rows : rows z w' ≡ cut_at no_row p (rows z w)
    unfolding rows
    removed_rows =
        let ss = remove_stores z p w in
        let L = s.linked in
        let r = L.room in
        let g = c.front.same in
        let hx = (L.tied p hp).below in
        let hy = (L.tied (length_of w - 1) (omega arith)).below in
        let e : length_of w' ≡ length_of w - 1 = g 0 (omega arith) ∙ hit w ss 4 _ _ (omega arith) (omega arith) in
        rw e
        (table_removed no_row (length_of w) (row_at z w) (row_at z w') p hp
        (λ q. row_is z w' p _ _ _ (g _ (omega arith) ∙ hit w ss 0 _ _ (omega arith) (omega arith)) (g _ (omega arith) ∙ hit w ss 1 _ _ (omega arith) (omega arith)) c.here)
        (λ i hi ne. row_is z w' i _ _ _ (g _ (omega arith) ∙ miss w ss _ (omega arith)) (g _ (omega arith) ∙ miss w ss _ (omega arith)) (c.others i (omega arith) ne ∙ value_stores z w ss (omega arith) i)))

    removed : RowsChanged z (cut_at no_row p) w w'
    removed =
        let ss = remove_stores z p w in
        let L = s.linked in
        let r = L.room in
        let hx = (L.tied p hp).below in
        let hy = (L.tied (length_of w - 1) (omega arith)).below in
        record {
          sound = front_sound z (stores w ss) w' removed_sound c.front;
          size = c.front.size ∙ length_stores w ss;
          becomes = removed_rows;
          kept = λ i l h. c.front.same i (omega arith) ∙ miss w ss i (omega arith);
        }

  -- the steps, one after the other
  pub removed_by : (w₁ w₂ w₃ w₄ : List ℕ) (x a : ℕ) (moved : Entity) → index_at w p ≡ x → moved ≡ row_entity w (length_of w - 1) → a ≡ value_at z w (length_of w - 1)
      → w₁ ≡ stores w (entity_stores p moved.index moved.version) → w₂ ≡ stores w₁ (place_stores z moved.index p)
      → w₃ ≡ stores w₂ (clear_stores z x (length_of w - 1)) → PutsValue z p a w₃ w₄ → RowsChanged z (cut_at no_row p) w w₄
  removed_by w₁ w₂ w₃ w₄ x a moved ex em ea e₁ e₂ e₃ c =
      let e : w₃ ≡ stores w (remove_stores z p w) = rw (e₃, e₂, e₁, em, ← ex) refl in
      removed w₄ (rw (e, ea) at c)

-- ---- pop

abbrev pop_stores : Shape → List ℕ → List (ℕ × ℕ)
pop_stores z w = clear_stores z (index_at w (length_of w - 1)) (length_of w - 1)

module _ (z : Shape) (w : List ℕ) (s : ColumnSound z w) (some : 1 ≤ length_of w) where
  popped_sound : ColumnSound z (stores w (pop_stores z w))
  popped_sound =
      let ss = pop_stores z w in
      let w' = stores w ss in
      let L = s.linked in
      let r = L.room in
      let k = length_of w in
      let e : length_of w' ≡ k - 1 = hit w ss 1 _ _ (omega arith) (omega arith) in
      let hl : k - 1 < k = omega arith in
      let hy = (L.tied (k - 1) hl).below in
      record {
        size = length_stores w ss ∙ s.size;
        shaped = s.shaped;
        linked =
            rw e
            (linked_removed z.capacity k (index_at w) (version_at w) (place_of z w) (held_of z w) L
            (index_at w') (version_at w') (place_of z w') (held_of z w') (k - 1) hl
            (λ q. absurd (omega arith))
            (λ i hi ne. miss w ss _ (omega arith))
            (λ q. absurd (omega arith))
            (λ i hi ne. miss w ss _ (omega arith))
            (λ q. absurd (omega arith))
            (λ i hi ne. let b = (L.tied i (omega arith)).below in miss w ss _ (omega arith))
            (hit w ss 0 _ _ (omega arith) (omega arith))
            (λ i hi ne. miss w ss _ (omega arith)));
      }

  popped_cut : rows z (stores w (pop_stores z w)) ≡ cut_at no_row (length_of w - 1) (rows z w)
  unfolding rows
  popped_cut =
      let ss = pop_stores z w in
      let w' = stores w ss in
      let r = s.linked.room in
      let hy = (s.linked.tied (length_of w - 1) (omega arith)).below in
      let e : length_of w' ≡ length_of w - 1 = hit w ss 1 _ _ (omega arith) (omega arith) in
      rw e
      (table_removed no_row (length_of w) (row_at z w) (row_at z w') (length_of w - 1) (omega arith)
      (λ q. absurd (omega arith))
      (λ i hi ne. row_is z w' i _ _ _ (miss w ss _ (omega arith)) (miss w ss _ (omega arith)) (value_stores z w ss (omega arith) i)))

  popped_changed : RowsChanged z popped w (stores w (pop_stores z w))
  popped_changed =
      let ss = pop_stores z w in
      let rs = rows z w in
      let r = s.linked.room in
      let hy = (s.linked.tied (length_of w - 1) (omega arith)).below in
      record {
        sound = popped_sound;
        size = length_stores w ss;
        becomes = popped_cut ∙ take-set-le (length rs - 1) rs (length_of w - 1) (get_or rs (length rs - 1) no_row) (omega (arith, length_rows z w));
        kept = λ i l h. miss w ss i (omega arith);
      }

  pub popped_by : (last : Entity) (w' : List ℕ) → last ≡ row_entity w (length_of w - 1) → w' ≡ stores w (clear_stores z last.index (length_of w - 1)) → RowsChanged z popped w w'
  popped_by last w' el e = rw (e, el) popped_changed

-- ---- clear: rows go one by one from the end

pub clear_none : (z : Shape) (w : List ℕ) → ColumnSound z w → RowsChanged z (take (length_of w)) w w
clear_none z w s = changed_none z (take (length_of w)) w s (sym (take_all (length_of w) (rows z w) (omega (arith, length_rows z w))))

-- one row more goes: how many are left, and which
pub clear_more : (z : Shape) (w₀ w w' : List ℕ) → 1 ≤ length_of w → RowsChanged z (take (length_of w)) w₀ w → RowsChanged z popped w w'
    → (length_of w' ≡ length_of w - 1) × RowsChanged z (take (length_of w')) w₀ w'
clear_more z w₀ w w' h c d =
    let k = length_of w in
    let b : length (rows z w) ≡ k = length_rows z w in
    let a : length (take k (rows z w₀)) ≡ k = ap length (sym c.becomes) ∙ b in
    let left : length_of w' ≡ k - 1 = sym (length_rows z w') ∙ ap length d.becomes ∙ ap (λ (j : ℕ). length (take (j - 1) (rows z w))) b ∙ length-take-le (k - 1) (rows z w) (omega arith) in (
      left,
      changed_as z (λ (rs : SparseSet). popped (take k rs)) (take (length_of w')) w₀ w' (changed_then z (take k) popped w₀ w w' c d)
          (ap (λ (j : ℕ). take (j - 1) (take k (rows z w₀))) a ∙ take-take (k - 1) k (rows z w₀) (omega arith) ∙ ap (λ (j : ℕ). take j (rows z w₀)) (sym left)),
    )
