-- What the tables say stays: a walk changes rows and counts, and neither the slots nor the layout but for its counts. Assumes nothing.
use mathlib.Core.Path.{◌≡◌, refl, ap, ap₂, sym, ◌∙◌, subst}
use mathlib.Core.List.{List, [], ◌∷◌, ◌++◌, map, map-append}
use Prim.Native.Nat.{ℕ, ◌+◌, ◌<◌}
use native.Mathlib.Omega.{arith}
use lib.ListN.{length, get_or, length-map, get_or-map}
use Rattle.model.specs.Model.{Entity, Family, Storage, zero_count, groups_of}
use Rattle.model.specs.Store.{Store, on_storage}
use Rattle.model.specs.Sound.{In, layout_kinds}
use Rattle.model.proofs.Shape.{plain}
use Rattle.model.proofs.Regroup.{zero_kinds}
use Rattle.masks.specs.Masks.{skipping}
use Rattle.masks.specs.declared.group_mask.GroupMask.{GroupMask}
use Rattle.words.specs.declared.Shape.{Shape}
use Rattle.words.specs.Shape.{column_start}
use Rattle.words.specs.Part.{between}
use Rattle.layout.specs.declared.group_metadata.GroupMetadata.{GroupMetadata}
use Rattle.memory.specs.Header.{slot_of}
use Rattle.memory.specs.Meaning.{meaning}
use Rattle.memory.specs.Arranged.{Arranged, Becomes}
use Rattle.kinds.proofs.Slot.{slot_alike}
use Rattle.group.specs.Flat.{Located, nowhere, family_groups, group_list, located, status_at, walk_up}
use Rattle.group.specs.Metadata.{order_of, Describes}
use Rattle.group.specs.Steps.{StepsUp}
use Rattle.group.proofs.Each.{step_plain, walk_plain}
use Rattle.group.proofs.Counts.{plain_groups}
use Rattle.group.proofs.Storing.{shape_kept}
use Rattle.group.specs.Places.{kind_no, SameLayout}
use Rattle.group.specs.Tables.{Starts, Groups, Skips, Tables}
use Rattle.group.proofs.Order.{order_known}

-- ---- layouts that differ in their counts alone

plain_kinds : (fs : List Family) → layout_kinds (plain fs) ≡ layout_kinds fs
plain_kinds [] = refl
plain_kinds (f ∷ fs) = ap₂ (λ (a b : List ℕ). a ++ b) (zero_kinds f) (plain_kinds fs)

same_order : (w w' : List ℕ) → SameLayout w w' → order_of (meaning w') ≡ order_of (meaning w)
same_order w w' q = sym (plain_kinds (meaning w').storage.layout) ∙ ap layout_kinds q ∙ plain_kinds (meaning w).storage.layout

module _ (w₀ w w' : List ℕ) (q : SameLayout w₀ w) where
  -- a step, and a walk
  pub step_same : {e : Entity} {g rest left : ℕ} → StepsUp w w' e g rest left → SameLayout w₀ w'
  step_same {e} {g} S =
      ap (λ (m : Store). plain m.storage.layout) S.becomes.means ∙ step_plain (status_at e g (meaning w).storage) e g (meaning w).storage ∙ q

  pub walk_same : (e : Entity) (ps : List ℕ) → Becomes w w' (on_storage (walk_up e 0 ps) (meaning w)) → SameLayout w₀ w'
  walk_same e ps B = ap (λ (m : Store). plain m.storage.layout) B.means ∙ walk_plain e 0 ps (meaning w).storage ∙ q

-- ---- a group but for its count

abbrev uncounted : Located → Located
uncounted l = record { kinds = l.kinds; new_kinds = l.new_kinds; count = 0; first = l.first; top = l.top }

family_plain : (first top : ℕ) (acc : List ℕ) (f : Family) → family_groups first top acc (map zero_count f) ≡ map uncounted (family_groups first top acc f)
family_plain first top acc [] = refl
family_plain first top acc (r ∷ rs) =
    ap {B = List Located} (λ l. record { kinds = acc ++ r.new_kinds; new_kinds = r.new_kinds; count = 0; first = first; top = top } ∷ l) (family_plain first top (acc ++ r.new_kinds) rs)

list_plain : (p : ℕ) (fs : List Family) → group_list p (plain fs) ≡ map uncounted (group_list p fs)
list_plain p [] = refl
list_plain p (f ∷ fs) =
    ap (λ (n : ℕ). family_groups p (p + n) [] (map zero_count f) ++ group_list (p + n) (plain fs)) (length-map f zero_count)
    ∙ ap₂ {C = List Located} (λ a b. a ++ b) (family_plain p (p + length f) [] f) (list_plain (p + length f) fs)
    ∙ sym (map-append uncounted (family_groups p (p + length f) [] f) (group_list (p + length f) fs))

located_plain : (fs : List Family) (g : ℕ) → located (plain fs) g ≡ uncounted (located fs g)
located_plain fs g = ap (λ (l : List Located). get_or l g nowhere) (list_plain 0 fs) ∙ get_or-map uncounted (group_list 0 fs) g nowhere

same_located : (fs gs : List Family) (g : ℕ) → plain gs ≡ plain fs → uncounted (located gs g) ≡ uncounted (located fs g)
same_located fs gs g q = sym (located_plain gs g) ∙ ap (λ (l : List Family). located l g) q ∙ located_plain fs g

-- ---- what the tables say

module _ (w w' : List ℕ) (z : Shape) (starts : List ℕ) (f : Storage → Storage) (A : Arranged w) (B : Becomes w w' (on_storage f (meaning w))) (q : SameLayout w w') where
  order : order_of (meaning w') ≡ order_of (meaning w)
  order = same_order w w' q

  kinds : (meaning w').kinds ≡ (meaning w).kinds
  kinds = ap (λ (m : Store). m.kinds) B.means

  pub starts_kept : Starts w z starts → Starts w' z starts
  starts_kept S =
      record {
        shape = S.shape ∙ sym (shape_kept w w' f B);
        room = omega (arith, S.room, ap length order);
        each = λ p h.
            let h₀ : p < length (order_of (meaning w)) = omega (arith, ap length order) in
            let k : kind_no w' p ≡ kind_no w p = ap (λ (l : List ℕ). get_or l p 0) order in
            S.each p h₀
            ∙ ap (column_start z) (sym (ap (slot_of w') k ∙ slot_alike w' w B.arranged A kinds (kind_no w p) (order_known w A p h₀)));
      }

  located_same : (g : ℕ) → uncounted (located (meaning w').storage.layout g) ≡ uncounted (located (meaning w).storage.layout g)
  located_same g = same_located (meaning w).storage.layout (meaning w').storage.layout g q

  described_kept : (g : ℕ) (d : GroupMetadata) → Describes (meaning w) g d → Describes (meaning w') g d
  described_kept g d D =
      record {
        kinds = ap (between d.storage_start d.storage_end) order ∙ D.kinds ∙ sym (ap (λ (l : Located). l.kinds) (located_same g));
        new_kinds = ap (between d.new_storage_start d.storage_end) order ∙ D.new_kinds ∙ sym (ap (λ (l : Located). l.new_kinds) (located_same g));
        first = D.first ∙ sym (ap (λ (l : Located). l.first) (located_same g));
        top = D.top ∙ sym (ap (λ (l : Located). l.top) (located_same g));
        low = D.low;
        some = D.some;
        listed =
            record {
              rising = D.listed.rising;
              within = omega (arith, D.listed.within, ap length order);
              known = λ k i.
                  subst (λ (ks : List ℕ). In ks k) (sym kinds)
                  (D.listed.known k (subst (λ (l : List ℕ). In (between d.storage_start d.storage_end l) k) order i));
            };
        few = D.few;
      }

  many : groups_of (meaning w').storage.layout ≡ groups_of (meaning w).storage.layout
  many = plain_groups (meaning w').storage.layout (meaning w).storage.layout q

  groups_kept : (t : List GroupMetadata) → Groups w t → Groups w' t
  groups_kept t G =
      record {
        room = omega (arith, G.room, many);
        each = λ g h none. described_kept g (get_or t g none) (G.each g (omega (arith, many)) none);
      }

  skips_kept : (t : List GroupMask) → Skips w t → Skips w' t
  skips_kept t K =
      record {
        room = omega (arith, K.room, many);
        each = λ g h none. K.each g (omega (arith, many)) none ∙ ap (skipping 64 g) (sym (ap (λ (l : Located). l.top) (located_same g)));
      }

  pub tables_kept : (groups : List GroupMetadata) (skips : List GroupMask) → Tables w z starts groups skips → Tables w' z starts groups skips
  tables_kept groups skips T =
      record { columns = starts_kept T.columns; described = groups_kept groups T.described; skipped = skips_kept skips T.skipped }
