-- What the commands of the building tape do, kind of command by kind of command: none but those that are to count is refused. Assumes nothing.
use mathlib.Core.Path.{◌≡◌, refl, ap, ap₂, sym, ◌∙◌, subst}
use mathlib.Core.Bool.{false}
use mathlib.Core.List.{List, [], ◌∷◌, ◌++◌, map, append_assoc, append-nil}
use Prim.Native.Nat.{ℕ, zero, suc, ◌+◌, ◌≤◌, ◌<◌}
use native.Mathlib.Omega.{arith}
use borrow.Author.Tests.{le-ltb, lt-leb, eq-eqb}
use lib.Dec.{lit<}
use lib.ListN.{length, get_or, set, replicate, length-append, length-map}
use lib.Seq.{set-append_seam}
use Rattle.model.specs.Numbers.{CALLERS, LAST_CALLER, LAST_KIND, LIST_CAPACITY, MAX_GROUP_ARITY, MAX_GROUP_COUNT, MAX_KINDS, MAX_REFUSALS}
use Rattle.model.specs.Model.{Entity, Group, Family, Component, mem, kind_of, kinds_of, groups_of, set_layout, regroup}
use Rattle.model.specs.Adding.{added, add_group}
use Rattle.model.specs.Store.{Counts, Settings, Store, empty_with, no_counts, one_more, staged_kinds, with_control, with_storage, with_kinds, with_layout, with_staged, with_excluded, with_draft, empty_staged}
use Rattle.model.specs.Commands.{Command, REG, GROUP, APPLY, BAR, SETCALLER, accepted}
use Rattle.model.specs.Refusals.{unknown_kind}
use Rattle.model.specs.Run.{Outcome, store_after}
use Rattle.model.specs.Sound.{In, Distinct, ValueFits, no_component, CountsSound, layout_kinds, Rising, BuildableFamily, BuildableFamilies, Uncounted, AllUncounted}
use Rattle.model.specs.Theorems.{DraftSound, recounted, grouped}
use Rattle.model.proofs.ListLaws.{map_append}
use Rattle.model.proofs.KindLists.{distinct_left, distinct_right, in_left, in_right, before_free}
use Rattle.model.proofs.Draft.{family_joined, kinds_append, groups_append}
use Rattle.model.proofs.Regroup.{zeroed, zeroed_families}
use Rattle.model.proofs.Counts.{one_more_up}
use Rattle.model.proofs.Outcomes.{reg_above, reg_new, caller_set, hold_staged, bar_excluded, apply_does, group_does}
use Rattle.model.proofs.Operations.{zero_fits}
use Rattle.tapes.specs.Tapes.{AllEncodable, after_one, after_all}
use Rattle.tapes.specs.Built.{Build, built_store, BuildSound, refused_command, caller_commands, count_commands, valueless, hold_commands, group_commands, family_commands, build_commands}
use Rattle.tapes.proofs.Tapes.{encodable_append, after_append}
use Rattle.tapes.proofs.Drafts.{own_added, wider_added}

-- ---- a list whose items come one by one

pub next_in : (l : List ℕ) (k : ℕ) → In (k ∷ l) k
next_in l k = rw (eq-eqb k k refl)

-- of distinct kinds the next is not among those before
pub next_new : (l m : List ℕ) (k : ℕ) → Distinct (l ++ (k ∷ m)) → mem k l ≡ false
next_new l m k d = before_free l (k ∷ m) d k (next_in m k)

pub next_few : {A : Type 0} (l m : List A) (x : A) (n : ℕ) → length (l ++ (x ∷ m)) ≤ n → length l < n
next_few l m x n h = omega (arith, length-append l (x ∷ m))

pub one_by_one : {A : Type 0} (l m : List A) (x : A) → (l ++ (x ∷ [])) ++ m ≡ l ++ (x ∷ m)
one_by_one l m x = append_assoc l (x ∷ []) m

-- commands of which the first leave t
first : (a b : List Command) (s t : Store) → after_all a s ≡ t → after_all (a ++ b) s ≡ after_all b t
first a b s t e = after_append a b s ∙ ap (after_all b) e

-- ---- the tallies and the caller

-- the store with caller c and the counts l
abbrev counting : Store → ℕ → List ℕ → Store
counting s c l = recounted (record { caller = c; refusals = l }) s

seam_at : (a z : List ℕ) (m : ℕ) → get_or (a ++ (m ∷ z)) (length a) 0 ≡ m
seam_at [] z m = refl
seam_at (x ∷ a) z m = seam_at a z m

-- SETCALLER, of a caller that there is
call_after : (s : Store) (c d : ℕ) (l : List ℕ) → d ≤ LAST_CALLER → after_one (SETCALLER d) (counting s c l) ≡ counting s d l
call_after s c d l h = ap (store_after (counting s c l)) (caller_set (counting s c l) d (le-ltb LAST_CALLER d h))

-- refused commands: the caller's count grows by one each
refusals_after : (t m : ℕ) (a z : List ℕ) (s : Store) → t + m ≤ MAX_REFUSALS → after_all (replicate t refused_command) (counting s (length a) (a ++ (m ∷ z))) ≡ counting s (length a) (a ++ ((t + m) ∷ z))
refusals_after zero m a z s h = let e : m ≡ 0 + m = omega arith in ap (λ (n : ℕ). counting s (length a) (a ++ (n ∷ z))) e
refusals_after (suc t) m a z s h =
    let x = counting s (length a) (a ++ (m ∷ z)) in
    let up : set (a ++ (m ∷ z)) (length a) (one_more (get_or (a ++ (m ∷ z)) (length a) 0)) ≡ a ++ (suc m ∷ z) =
    ap (λ (n : ℕ). set (a ++ (m ∷ z)) (length a) (one_more n)) (seam_at a z m) ∙ ap (set (a ++ (m ∷ z)) (length a)) (one_more_up m (omega arith)) ∙ set-append_seam a m z (suc m) in
    let e : t + suc m ≡ suc t + m = omega arith in
    ap (λ (o : Outcome). after_all (replicate t refused_command) (store_after x o)) (reg_above x (suc LAST_KIND) refl)
    ∙ ap (λ (l : List ℕ). after_all (replicate t refused_command) (counting s (length a) l)) up
    ∙ refusals_after t (suc m) a z s (omega arith)
    ∙ ap (λ (n : ℕ). counting s (length a) (a ++ (n ∷ z))) e

-- the callers from i on, whose counts are to be ns, and then caller d; those below i have the counts a
callers_after : (ns a : List ℕ) (i c d : ℕ) (s : Store) → i ≡ length a → length a + length ns ≤ CALLERS → d ≤ LAST_CALLER → ((j : ℕ) → get_or ns j 0 ≤ MAX_REFUSALS)
    → after_all (caller_commands i ns ++ (SETCALLER d ∷ [])) (counting s c (a ++ replicate (length ns) 0)) ≡ counting s d (a ++ ns)
callers_after [] a i c d s e few low most = call_after s c d (a ++ []) low
callers_after (n ∷ ns) a i c d s e few low most =
    let last = SETCALLER d ∷ [] in
    let zeros = replicate {A = ℕ} (length ns) 0 in
    let rest = caller_commands (suc i) ns ++ last in
    let next : suc i ≡ length (a ++ (n ∷ [])) = omega (arith, length-append a (n ∷ [])) in
    let sum : n + 0 ≡ n = omega arith in
    ap (after_all ((replicate n refused_command ++ caller_commands (suc i) ns) ++ last)) (call_after s c i (a ++ (0 ∷ zeros)) (omega arith))
    ∙ ap (λ (l : List Command). after_all l (counting s i (a ++ (0 ∷ zeros)))) (append_assoc (replicate n refused_command) (caller_commands (suc i) ns) last)
    ∙ first (replicate n refused_command) rest (counting s i (a ++ (0 ∷ zeros))) (counting s i ((a ++ (n ∷ [])) ++ zeros))
    (ap (λ (j : ℕ). after_all (replicate n refused_command) (counting s j (a ++ (0 ∷ zeros)))) e
    ∙ refusals_after n 0 a zeros s (omega (arith, most 0))
    ∙ ap₂ (λ (j : ℕ) (l : List ℕ). counting s j l) (sym e) (ap (λ (m : ℕ). a ++ (m ∷ zeros)) sum ∙ sym (one_by_one a zeros n)))
    ∙ callers_after ns (a ++ (n ∷ [])) (suc i) i d s next (omega (arith, length-append a (n ∷ []))) low (λ j. most (suc j))
    ∙ ap (counting s d) (one_by_one a ns n)

-- from the counts of a start
counts_after_law : (n : Counts) (s : Store) → CountsSound n → s.control.counts ≡ no_counts → after_all (count_commands n) s ≡ recounted n s
counts_after_law n s N e =
    let z : no_counts.refusals ≡ [] ++ replicate (length n.refusals) 0 = ap (λ (k : ℕ). replicate k 0) (sym N.callers) in
    let is : s ≡ counting s 0 ([] ++ replicate (length n.refusals) 0) = ap (λ (x : Counts). recounted x s) (e ∙ ap (λ (l : List ℕ). record { caller = 0; refusals = l }) z) in
    ap (after_all (count_commands n)) is ∙ callers_after n.refusals [] 0 0 n.caller s refl (omega (arith, N.callers)) N.caller N.most

-- ---- REG: the kinds in their order

regs_after : (ks : List ℕ) (s : Store) → Distinct (s.kinds ++ ks) → length (s.kinds ++ ks) ≤ s.settings.kind_capacity → ((k : ℕ) → In ks k → k < MAX_KINDS) → after_all (map REG ks) s ≡ with_kinds s (s.kinds ++ ks)
regs_after [] s d few small = ap (with_kinds s) (sym (append-nil s.kinds))
regs_after (k ∷ ks) s d few small =
    let e = one_by_one s.kinds ks k in
    ap (λ (x : Outcome). after_all (map REG ks) (store_after s x))
    (reg_new s k (le-ltb LAST_KIND k (omega (arith, small k (next_in ks k)))) (next_new s.kinds ks k d) (lt-leb s.settings.kind_capacity (length s.kinds) (next_few s.kinds ks k s.settings.kind_capacity few)))
    ∙ regs_after ks (with_kinds s (s.kinds ++ (k ∷ []))) (rw e d) (rw e few) (λ j i. small j (in_right (k ∷ []) ks j i))
    ∙ ap (with_kinds s) e

-- ---- HOLD: the components in their order

pub holds_after : (ps : List Component) (s : Store) → Distinct (staged_kinds s ++ map kind_of ps) → length (s.control.staged ++ ps) ≤ LIST_CAPACITY → ((k : ℕ) → In (map kind_of ps) k → unknown_kind k s ≡ false)
    → after_all (hold_commands ps) s ≡ with_control s (with_staged s.control (s.control.staged ++ ps))
holds_after [] s d few known = ap (λ (h : List Component). with_control s (with_staged s.control h)) (sym (append-nil s.control.staged))
holds_after (p ∷ ps) s d few known =
    let e : (s.control.staged ++ (p ∷ [])) ++ ps ≡ s.control.staged ++ (p ∷ ps) = one_by_one s.control.staged ps p in
    let q : map kind_of (s.control.staged ++ (p ∷ [])) ++ map kind_of ps ≡ staged_kinds s ++ (p.kind ∷ map kind_of ps) =
    ap (λ (l : List ℕ). l ++ map kind_of ps) (map_append kind_of s.control.staged (p ∷ [])) ∙ one_by_one (staged_kinds s) (map kind_of ps) p.kind in
    ap (λ (x : Outcome). after_all (hold_commands ps) (store_after s x))
    (hold_staged s p.kind p.value (known p.kind (next_in (map kind_of ps) p.kind)) (next_new (staged_kinds s) (map kind_of ps) p.kind d) (lt-leb LIST_CAPACITY (length s.control.staged) (next_few s.control.staged ps p LIST_CAPACITY few)))
    ∙ holds_after ps (with_control s (with_staged s.control (s.control.staged ++ (p ∷ [])))) (rw q d) (rw e few) (λ j i. known j (in_right (p.kind ∷ []) (map kind_of ps) j i))
    ∙ ap (λ (l : List Component). with_control s (with_staged s.control l)) e

-- ---- BAR: the kinds in their order

bars_after : (ks : List ℕ) (s : Store) → Distinct (s.control.excluded ++ ks) → length (s.control.excluded ++ ks) ≤ LIST_CAPACITY → ((k : ℕ) → In ks k → unknown_kind k s ≡ false)
    → after_all (map BAR ks) s ≡ with_control s (with_excluded s.control (s.control.excluded ++ ks))
bars_after [] s d few known = ap (λ (b : List ℕ). with_control s (with_excluded s.control b)) (sym (append-nil s.control.excluded))
bars_after (k ∷ ks) s d few known =
    let e = one_by_one s.control.excluded ks k in
    ap (λ (x : Outcome). after_all (map BAR ks) (store_after s x))
    (bar_excluded s k (known k (next_in ks k)) (next_new s.control.excluded ks k d) (lt-leb LIST_CAPACITY (length s.control.excluded) (next_few s.control.excluded ks k LIST_CAPACITY few)))
    ∙ bars_after ks (with_control s (with_excluded s.control (s.control.excluded ++ (k ∷ [])))) (rw e d) (rw e few) (λ j i. known j (in_right (k ∷ []) ks j i))
    ∙ ap (λ (l : List ℕ). with_control s (with_excluded s.control l)) e

-- ---- GROUP

-- the store with this draft, and nothing staged
abbrev pub on_draft : Store → List Family → Store
on_draft s fs = with_control s (with_draft (empty_staged s.control) fs)

valueless_kinds : (ks : List ℕ) → map kind_of (map valueless ks) ≡ ks
valueless_kinds [] = refl
valueless_kinds (k ∷ ks) = ap {B = List ℕ} (λ l. k ∷ l) (valueless_kinds ks)

module _ (s : Store) (small : (k : ℕ) → In s.kinds k → k < MAX_KINDS) where
  pub known_kind : (k : ℕ) → In s.kinds k → unknown_kind k s ≡ false
  known_kind k i = rw (le-ltb LAST_KIND k (omega (arith, small k i)), i)

  -- a group's kinds are held and added to the draft
  group_after : (ks : List ℕ) (cs : List Command) (fs gs : List Family) → Distinct ks → length ks ≤ MAX_GROUP_ARITY → ((k : ℕ) → In ks k → In s.kinds k) → add_group ks fs ≡ added gs
      → after_all (hold_commands (map valueless ks) ++ (GROUP ∷ cs)) (on_draft s fs) ≡ after_all cs (on_draft s gs)
  group_after ks cs fs gs d narrow known e =
      let q = valueless_kinds ks in
      let held : Store = with_control (on_draft s fs) (with_staged (on_draft s fs).control (map valueless ks)) in
      first (hold_commands (map valueless ks)) (GROUP ∷ cs) (on_draft s fs) held
      (holds_after (map valueless ks) (on_draft s fs) (rw q d) (omega (arith, length-map ks valueless)) (λ k i. known_kind k (known k (rw q at i))))
      ∙ ap (λ (x : Outcome). after_all cs (store_after held x)) (group_does held ∙ ap (grouped held) (ap (λ (l : List ℕ). add_group l fs) q ∙ e))

  -- the last family's groups from its second on; acc are its kinds so far
  groups_after : (rs : Family) (acc : List ℕ) (f : Family) (fs : List Family) → kinds_of f ≡ acc → 1 ≤ length acc → Rising rs → Uncounted rs → length (acc ++ kinds_of rs) ≤ MAX_GROUP_ARITY
      → Distinct (layout_kinds fs ++ (acc ++ kinds_of rs)) → ((k : ℕ) → In (acc ++ kinds_of rs) k → In s.kinds k) → groups_of fs + (length f + length rs) ≤ MAX_GROUP_COUNT
      → after_all (group_commands acc rs) (on_draft s (fs ++ (f ∷ []))) ≡ on_draft s (fs ++ ((f ++ rs) ∷ []))
  groups_after [] acc f fs q some up uncounted narrow once known few = ap (λ (g : Family). on_draft s (fs ++ (g ∷ []))) (sym (append-nil f))
  groups_after (r ∷ rs) acc f fs q some up uncounted narrow once known few =
      let p : acc ++ (r.new_kinds ++ kinds_of rs) ≡ (acc ++ r.new_kinds) ++ kinds_of rs = sym (append_assoc acc r.new_kinds (kinds_of rs)) in
      let once' : Distinct (layout_kinds fs ++ ((acc ++ r.new_kinds) ++ kinds_of rs)) = rw p at once in
      let front : Distinct (layout_kinds fs ++ (acc ++ r.new_kinds)) = distinct_left (layout_kinds fs ++ (acc ++ r.new_kinds)) (kinds_of rs) (rw (sym (append_assoc (layout_kinds fs) (acc ++ r.new_kinds) (kinds_of rs))) at once') in
      let narrow' : length ((acc ++ r.new_kinds) ++ kinds_of rs) ≤ MAX_GROUP_ARITY = rw p at narrow in
      let short : length (acc ++ r.new_kinds) ≤ MAX_GROUP_ARITY = omega (arith, length-append (acc ++ r.new_kinds) (kinds_of rs)) in
      let known' : (k : ℕ) → In ((acc ++ r.new_kinds) ++ kinds_of rs) k → In s.kinds k = rw p at known in
      let adds : add_group (acc ++ r.new_kinds) (fs ++ (f ∷ [])) ≡ added (fs ++ ((f ++ (r ∷ [])) ∷ [])) =
      subst (λ (a : List ℕ). add_group (a ++ r.new_kinds) (fs ++ (f ∷ [])) ≡ added (fs ++ ((f ++ (r ∷ [])) ∷ []))) q
      (wider_added fs f r.new_kinds (rw q some) up.0 (rw q short) (rw q front) (omega arith) ∙ ap (λ (g : Group). added (fs ++ ((f ++ (g ∷ [])) ∷ []))) (zeroed r uncounted.0)) in
      group_after (acc ++ r.new_kinds) (group_commands (acc ++ r.new_kinds) rs) (fs ++ (f ∷ [])) (fs ++ ((f ++ (r ∷ [])) ∷ [])) (distinct_right (layout_kinds fs) (acc ++ r.new_kinds) front) short (λ k i. known' k (in_left (acc ++ r.new_kinds) (kinds_of rs) k i)) adds
      ∙ groups_after rs (acc ++ r.new_kinds) (f ++ (r ∷ [])) fs (family_joined f (r ∷ []) ∙ ap₂ (λ (a b : List ℕ). a ++ b) q (append-nil r.new_kinds)) (omega (arith, length-append acc r.new_kinds)) up.1 uncounted.1 narrow' once' known' (omega (arith, length-append f (r ∷ [])))
      ∙ ap (λ (g : Family). on_draft s (fs ++ (g ∷ []))) (one_by_one f rs r)

  -- a family of its own
  family_after : (f : Family) (fs : List Family) → BuildableFamily f → Uncounted f → Distinct (layout_kinds fs ++ kinds_of f) → ((k : ℕ) → In (kinds_of f) k → In s.kinds k) → groups_of fs + length f ≤ MAX_GROUP_COUNT
      → after_all (group_commands [] f) (on_draft s fs) ≡ on_draft s (fs ++ (f ∷ []))
  family_after [] fs b uncounted once known few = absurd b
  family_after (r ∷ rs) fs b uncounted once known few =
      let front : Distinct (layout_kinds fs ++ r.new_kinds) = distinct_left (layout_kinds fs ++ r.new_kinds) (kinds_of rs) (rw (sym (append_assoc (layout_kinds fs) r.new_kinds (kinds_of rs))) at once) in
      let short : length r.new_kinds ≤ MAX_GROUP_ARITY = omega (arith, b.2, length-append r.new_kinds (kinds_of rs)) in
      let adds : add_group r.new_kinds fs ≡ added (fs ++ ((r ∷ []) ∷ [])) = own_added r.new_kinds fs b.0 short (before_free (layout_kinds fs) r.new_kinds front) (omega arith) ∙ ap (λ (g : Group). added (fs ++ ((g ∷ []) ∷ []))) (zeroed r uncounted.0) in
      group_after r.new_kinds (group_commands r.new_kinds rs) fs (fs ++ ((r ∷ []) ∷ [])) (distinct_right (layout_kinds fs) r.new_kinds front) short (λ k i. known k (in_left r.new_kinds (kinds_of rs) k i)) adds
      ∙ groups_after rs r.new_kinds (r ∷ []) fs (append-nil r.new_kinds) (omega (arith, b.0)) b.1 uncounted.1 b.2 once known (omega arith)

  -- the families in their order, behind those of the draft
  families_after : (gs fs : List Family) → BuildableFamilies gs → AllUncounted gs → Distinct (layout_kinds (fs ++ gs)) → ((k : ℕ) → In (layout_kinds gs) k → In s.kinds k) → groups_of (fs ++ gs) ≤ MAX_GROUP_COUNT
      → after_all (family_commands gs) (on_draft s fs) ≡ on_draft s (fs ++ gs)
  families_after [] fs b uncounted once known few = ap (on_draft s) (sym (append-nil fs))
  families_after (g ∷ gs) fs b uncounted once known few =
      let e : (fs ++ (g ∷ [])) ++ gs ≡ fs ++ (g ∷ gs) = one_by_one fs gs g in
      let front : Distinct (layout_kinds fs ++ kinds_of g) = distinct_left (layout_kinds fs ++ kinds_of g) (layout_kinds gs) (rw (kinds_append fs (g ∷ gs), sym (append_assoc (layout_kinds fs) (kinds_of g) (layout_kinds gs))) at once) in
      first (group_commands [] g) (family_commands gs) (on_draft s fs) (on_draft s (fs ++ (g ∷ [])))
      (family_after g fs b.0 uncounted.0 front (λ k i. known k (in_left (kinds_of g) (layout_kinds gs) k i)) (omega (arith, groups_append fs (g ∷ gs))))
      ∙ families_after gs (fs ++ (g ∷ [])) b.1 uncounted.1 (rw e once) (λ k i. known k (in_right (kinds_of g) (layout_kinds gs) k i)) (rw e few)
      ∙ ap (on_draft s) e

  -- a draft from nothing
  draft_after : (fs : List Family) → DraftSound s.kinds fs → after_all (family_commands fs) (on_draft s []) ≡ on_draft s fs
  draft_after fs D = families_after fs [] D.buildable.families D.uncounted D.buildable.once D.buildable.known D.buildable.few

-- ---- APPLY

-- with no entity live the draft is in force as it stands
apply_after : (s : Store) → s.entities.live ≡ [] → AllUncounted s.control.draft → after_one APPLY s ≡ with_control (with_storage s (with_layout s.storage s.control.draft)) (with_draft s.control [])
unfolding accepted set_layout regroup
apply_after s none uncounted =
    ap (store_after s) (apply_does s)
    ∙ ap (λ (l : List Entity). with_control (with_storage s (set_layout l s.control.draft s.storage)) (with_draft s.control [])) none
    ∙ ap (λ (fs : List Family). with_control (with_storage s (with_layout s.storage fs)) (with_draft s.control [])) (zeroed_families s.control.draft uncounted)

-- ---- all of them, from the empty store

pub commands_after : (c : Settings) (b : Build) → BuildSound c.kind_capacity c.value_bytes b → after_all (build_commands b) (empty_with c) ≡ built_store c b
unfolding empty_with
commands_after c b B =
    let s₀ = recounted b.counts (empty_with c) in
    let s₁ = with_kinds s₀ b.kinds in
    let s₂ = with_storage s₁ (with_layout (empty_with c).storage b.layout) in
    let s₃ = on_draft s₂ b.draft in
    let s₄ = with_control s₃ (with_staged s₃.control b.staged) in
    let barring = map BAR b.excluded in
    let holding = hold_commands b.staged ++ barring in
    let drafting = family_commands b.draft ++ holding in
    let applying = family_commands b.layout ++ (APPLY ∷ drafting) in
    let small = B.kinds.small in
    first (count_commands b.counts) (map REG b.kinds ++ applying) (empty_with c) s₀ (counts_after_law b.counts (empty_with c) B.counts refl)
    ∙ first (map REG b.kinds) applying s₀ s₁ (regs_after b.kinds s₀ B.kinds.once B.kinds.few small)
    ∙ first (family_commands b.layout) (APPLY ∷ drafting) s₁ (on_draft s₁ b.layout) (draft_after s₁ small b.layout B.layout)
    ∙ first (APPLY ∷ []) drafting (on_draft s₁ b.layout) s₂ (apply_after (on_draft s₁ b.layout) refl B.layout.uncounted)
    ∙ first (family_commands b.draft) holding s₂ s₃ (draft_after s₂ small b.draft B.draft)
    ∙ first (hold_commands b.staged) barring s₃ s₄ (holds_after b.staged s₃ B.staged.once B.staged.few (λ j i. known_kind s₃ small j (B.staged.known j i)))
    ∙ bars_after b.excluded s₄ B.excluded.once B.excluded.few (λ j i. known_kind s₄ small j (B.excluded.known j i))

-- ---- they can stand on a tape

abbrev pub OneByte : List ℕ → Type 0
OneByte ks = (k : ℕ) → In ks k → k < 256

module _ (v : ℕ) where
  refused_encodable : (t : ℕ) → AllEncodable v (replicate t refused_command)
  refused_encodable zero = tt
  refused_encodable (suc t) = (lit< tt, refused_encodable t)

  callers_encodable : (ns : List ℕ) (c : ℕ) → c + length ns ≤ CALLERS → AllEncodable v (caller_commands c ns)
  callers_encodable [] c h = tt
  callers_encodable (n ∷ ns) c h = (omega arith, encodable_append v (replicate n refused_command) (caller_commands (suc c) ns) (refused_encodable n) (callers_encodable ns (suc c) (omega arith)))

  regs_encodable : (ks : List ℕ) → OneByte ks → AllEncodable v (map REG ks)
  regs_encodable [] h = tt
  regs_encodable (k ∷ ks) h = (h k (next_in ks k), regs_encodable ks (λ j i. h j (in_right (k ∷ []) ks j i)))

  bars_encodable : (ks : List ℕ) → OneByte ks → AllEncodable v (map BAR ks)
  bars_encodable [] h = tt
  bars_encodable (k ∷ ks) h = (h k (next_in ks k), bars_encodable ks (λ j i. h j (in_right (k ∷ []) ks j i)))

  pub holds_encodable : (ps : List Component) → OneByte (map kind_of ps) → ((j : ℕ) → ValueFits v (get_or ps j no_component).value) → AllEncodable v (hold_commands ps)
  holds_encodable [] h x = tt
  holds_encodable (p ∷ ps) h x = ((h p.kind (next_in (map kind_of ps) p.kind), x 0), holds_encodable ps (λ j i. h j (in_right (p.kind ∷ []) (map kind_of ps) j i)) (λ j. x (suc j)))

  valueless_encodable : (ks : List ℕ) → OneByte ks → AllEncodable v (hold_commands (map valueless ks))
  valueless_encodable [] h = tt
  valueless_encodable (k ∷ ks) h = ((h k (next_in ks k), zero_fits v), valueless_encodable ks (λ j i. h j (in_right (k ∷ []) ks j i)))

  groups_encodable : (rs : Family) (acc : List ℕ) → OneByte (acc ++ kinds_of rs) → AllEncodable v (group_commands acc rs)
  groups_encodable [] acc h = tt
  groups_encodable (r ∷ rs) acc h =
      let h' : OneByte ((acc ++ r.new_kinds) ++ kinds_of rs) = rw (append_assoc acc r.new_kinds (kinds_of rs)) h in
      encodable_append v (hold_commands (map valueless (acc ++ r.new_kinds))) (GROUP ∷ group_commands (acc ++ r.new_kinds) rs)
      (valueless_encodable (acc ++ r.new_kinds) (λ k i. h' k (in_left (acc ++ r.new_kinds) (kinds_of rs) k i)))
      (tt, groups_encodable rs (acc ++ r.new_kinds) h')

  families_encodable : (fs : List Family) → OneByte (layout_kinds fs) → AllEncodable v (family_commands fs)
  families_encodable [] h = tt
  families_encodable (f ∷ fs) h =
      encodable_append v (group_commands [] f) (family_commands fs)
      (groups_encodable f [] (λ k i. h k (in_left (kinds_of f) (layout_kinds fs) k i)))
      (families_encodable fs (λ k i. h k (in_right (kinds_of f) (layout_kinds fs) k i)))

pub commands_encodable : (k v : ℕ) (b : Build) → BuildSound k v b → AllEncodable v (build_commands b)
commands_encodable k v b B =
    encodable_append v (count_commands b.counts) _
    (encodable_append v (caller_commands 0 b.counts.refusals) (SETCALLER b.counts.caller ∷ []) (callers_encodable v b.counts.refusals 0 (omega (arith, B.counts.callers))) (omega (arith, B.counts.caller), tt))
    (encodable_append v (map REG b.kinds) _ (regs_encodable v b.kinds small)
    (encodable_append v (family_commands b.layout) _ (families_encodable v b.layout (λ j i. small j (B.layout.buildable.known j i))) (
      tt,
      encodable_append v (family_commands b.draft) _ (families_encodable v b.draft (λ j i. small j (B.draft.buildable.known j i)))
          (encodable_append v (hold_commands b.staged) _ (holds_encodable v b.staged (λ j i. small j (B.staged.known j i)) B.staged.values) (bars_encodable v b.excluded (λ j i. small j (B.excluded.known j i)))),
    )))
  where
    small : OneByte b.kinds
    small j i = omega (arith, B.kinds.small j i)
