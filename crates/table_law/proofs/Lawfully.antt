-- An acquisition alone is fine exactly where the tree is lawful.
use Rattle.std.proofs.Common.{◌≡◌, ℕ, zero, suc, ◌+◌, ◌<◌, ◌≤◌, ◌⊎◌, Option, Some, None, IsTrue, refl, sym, ap, ◌∙◌, subst, inl, inr, arith}
use Rattle.std.proofs.lemmas.Bool.Decides.{nat_tests}
use Rattle.xp_words.specs.declared.kind.PageType.{PageType}
use Rattle.xp_words.specs.declared.entry.Demand.{Demand}
use Rattle.xp_words.specs.declared.entry.Demand.TheVariants.{Bad, Read, Typed}
use Rattle.xp_words.specs.PageTypes.{is_table}
use Rattle.xp_board.specs.Lawful.{IsCountedAs}
use Rattle.xp_board.specs.Lists.{one_at}
use Rattle.xp_board.specs.Readings.{is_dead}
use Rattle.xp_board.specs.Sums.{sum_below}
use Rattle.xp_board.specs.Recorded.{names}
use Rattle.xp_board.proofs.Sums.{sum_below-none, sum_below-same}
use Rattle.xp_words.specs.Machine.{Machine}
use Rattle.partial_state.specs.Levels.{level_type}
use Rattle.partial_state.proofs.LevelFacts.{level_type-table}
use Rattle.table_law.specs.Plain.{Plain, Share}
use Rattle.table_law.specs.Alone.{PlainOutcome, then_by, take_reference, take_at, alone}
use Rattle.table_law.specs.Levels.{entry_of}
use Rattle.table_law.specs.Lawful.{PlainTree, root, below, IsPlainNode, IsPlainOwned, PlainLawful, IsRested, plain_asked_by, share_count}
use Rattle.table_law.proofs.Doing.{Case, IsCalm, Doing, Doings, IsLawful, IsSame, IsMet, AllMet, HasType, Grows, Failed, Goes, total, more, asked}
use Rattle.table_law.proofs.Counting.{total_most}
use Rattle.table_law.proofs.Meeting.{Took}
use Rattle.table_law.proofs.Referring.{Referred, refer_goes}
use Rattle.table_law.proofs.Taking.{take_goes}

-- nothing is done yet
abbrev pub nothing : Doing
nothing = record { taken = λ x. None; met = λ x. 0 }

module _ (c : Case) (calm : IsCalm c) (l : ℕ) (low : l ≤ 4) (kind : c.kind ≡ level_type l) where
  first_total : (h : ℕ) → total c nothing h ≡ one_at h c.top
  first_total h =
      let n = sum_below-none c.machine.frames (λ x. 0) (λ k b. refl) in
      let e : one_at c.top h ≡ one_at h c.top = grind (arith, nat_tests) in
      omega arith

  more_none : (s : Option Share) → s ≡ more 0 s
  more_none None = refl
  more_none (Some s) = ap (λ k. Some (record { owner = s.owner; allocated = s.allocated; count = k })) (let e : s.count ≡ s.count + 0 = omega arith in e)

  referred : Referred c c.before c.top (total c nothing) (take_reference c.machine c.owner c.top c.before) ⊎ Failed c (take_reference c.machine c.owner c.top c.before)
  referred =
      refer_goes c c.before c.top (λ h. 0) (total c nothing) (λ h. more_none (c.before.shares h)) (λ h. first_total h ∙ (let e : one_at h c.top ≡ 0 + one_at h c.top = omega arith in e)) calm.room
      (λ law. law.typed c.top c.kind root)
      (λ s real was law. total_most c c.before nothing (λ x k some. absurd (cc)) (λ x. omega arith) law c.top s real was)

  first_does : (r : Referred c c.before c.top (total c nothing) (take_reference c.machine c.owner c.top c.before)) → Doings c r.left nothing
  first_does r =
      record {
        cells = λ g i. ap (λ (k : ℕ → ℕ → ℕ). k g i) r.cells;
        shares = r.shares;
        room = r.room;
        same = λ x none. subst (λ k. IsSame (c.before.kinds x) k) (sym (ap (λ k. k x) r.kinds)) (record { kind = refl; live = refl; dead = refl; more = omega arith });
        took = λ x k some. absurd (cc);
        most = λ x. omega arith;
      }

  pub record Ended (q : Plain) (e : Doing) : Type 0 where
    pub start : Plain
    pub took : Took c start nothing c.top l q e
    pub owned : IsPlainOwned c.machine c.owner c.before c.top

  then_took : (r : Referred c c.before c.top (total c nothing) (take_reference c.machine c.owner c.top c.before)) → Goes c (take_at l c.machine c.owner c.top r.left) (Took c r.left nothing c.top l) → Goes c (alone c.machine c.owner l c.top c.before) Ended
  then_took r (inl done) =
      inl
      (record {
        left = done.left;
        doing = done.doing;
        is = ap (λ o. then_by o (take_at l c.machine c.owner c.top)) r.is ∙ done.is;
        holds = record { start = r.left; took = done.holds; owned = r.owned };
      })
  then_took r (inr failed) =
      inr (record { cause = failed.cause; left = failed.left; is = ap (λ o. then_by o (take_at l c.machine c.owner c.top)) r.is ∙ failed.is; why = failed.why })

  pub alone_goes : Goes c (alone c.machine c.owner l c.top c.before) Ended
  alone_goes =
      elim referred [
        | inl r ↦
            then_took r
            (take_goes c l low c.top r.left nothing (first_does r) (λ x k some off. absurd (cc)) r.owned (subst (λ t. PlainTree c.before c.top c.kind c.top t) kind root))
        | inr failed ↦
            inr (record { cause = failed.cause; left = failed.left; is = ap (λ o. then_by o (take_at l c.machine c.owner c.top)) failed.is; why = failed.why })
      ]

  -- where it is fine the tree is lawful
  module _ (q : Plain) (e : Doing) (ended : Ended q e) where
    grown : Grows c ended.start nothing q e (λ x. ⊥)
    grown = ended.took.grows

    does : Doings c q e
    does = ended.took.doings

    all_met : (x k : ℕ) → e.taken x ≡ Some (suc k) → AllMet c e k x
    all_met x k some = (grown.closed x k refl some).1

    met_full : (x k : ℕ) → e.taken x ≡ Some (suc k) → e.met x ≡ 512
    met_full x k some = (grown.closed x k refl some).0

    -- a dead table of the tree was taken
    pub record TookTable (x : ℕ) (u : PageType) : Type 0 where
      pub level : ℕ
      pub taken : e.taken x ≡ Some (suc level)
      pub type : level_type (suc level) ≡ u

    by_level : (x : ℕ) (u : PageType) (k : ℕ) → e.taken x ≡ Some k → level_type k ≡ u → IsTrue (is_table u) → TookTable x u
    by_level x u zero some is table = absurd (let t : IsTrue (is_table (level_type 0)) = subst (λ w. IsTrue (is_table w)) (sym is) table in cc)
    by_level x u (suc k) some is table = record { level = k; taken = some; type = is }

    took_table : (x : ℕ) (u : PageType) → HasType c e x u → IsTrue (is_dead (c.before.kinds x)) → IsTrue (is_table u) → TookTable x u
    took_table x u (inl a) dead table = by_level x u a.0 a.1 a.2 table
    took_table x u (inr a) dead table = absurd (let n = a.0 in cc)

    entry_met : (x i : ℕ) (u : PageType) (a : Demand) → TookTable x u → i < 512 → entry_of c.before u x i ≡ a → IsMet c e a
    entry_met x i u a t inside asks = subst (IsMet c e) (ap (λ v. entry_of c.before v x i) t.type ∙ asks) (all_met x t.level t.taken i inside)

    pub reached : (x : ℕ) (u : PageType) → PlainTree c.before c.top c.kind x u → IsPlainOwned c.machine c.owner c.before x × HasType c e x u
    reached x u root = (ended.owned, subst (λ t. HasType c e c.top t) (sym kind) ended.took.has)
    reached x u (below g i h v w tree dead table inside asks) =
        let r = reached g v tree in
        entry_met g i v (Typed h w) (took_table g v r.1 dead table) inside asks

    node_table : (x : ℕ) (u : PageType) → IsPlainNode c.before c.top c.kind x u → TookTable x u
    node_table x u node = took_table x u (reached x u node.tree).1 node.dead node.table

    -- one type
    one_by : (g : ℕ) (u w : PageType) → HasType c e g u → HasType c e g w → u ≡ w
    one_by g u w (inl a) (inl b) =
        let same : Some a.0 ≡ Some b.0 = sym a.1 ∙ b.1 in
        let k : a.0 ≡ b.0 = cc in
        sym a.2 ∙ ap level_type k ∙ b.2
    one_by g u w (inl a) (inr b) = absurd (let t = does.took g a.0 a.1 in let d = t.dead in let n = b.0 in cc)
    one_by g u w (inr a) (inl b) = absurd (let t = does.took g b.0 b.1 in let d = t.dead in let n = a.0 in cc)
    one_by g u w (inr a) (inr b) = sym a.1 ∙ b.1

    right_by : (g : ℕ) (u : PageType) → IsPlainOwned c.machine c.owner c.before g → HasType c e g u → IsTrue (is_dead (c.before.kinds g)) ⊎ IsCountedAs (c.before.kinds g) u
    right_by g u owned (inl a) = inl (does.took g a.0 a.1).dead
    right_by g u owned (inr a) = let live = calm.formed g owned.inside a.0 in inr (record { live = live; kind = a.1; counted = calm.counted g owned.inside live })

    -- the nodes are the tables that were taken
    node_of : Option ℕ → Option PageType
    node_of None = None
    node_of (Some zero) = None
    node_of (Some (suc k)) = Some (level_type (suc k))

    node_by : (x : ℕ) (u : PageType) (o : Option ℕ) → e.taken x ≡ o → node_of o ≡ Some u → IsPlainNode c.before c.top c.kind x u
    unfolding node_of
    node_by x u None some is = absurd (cc)
    node_by x u (Some zero) some is = absurd (cc)
    node_by x u (Some (suc k)) some is =
        let t = does.took x (suc k) some in
        let same : level_type (suc k) ≡ u = cc in
        subst (λ v. IsPlainNode c.before c.top c.kind x v) same (record { tree = t.tree; dead = t.dead; table = level_type-table (suc k) (omega arith) })

    is_node_of : (x : ℕ) (u : PageType) → TookTable x u → node_of (e.taken x) ≡ Some u
    unfolding node_of
    is_node_of x u t = ap node_of t.taken ∙ ap Some t.type

    counted_by : (g x : ℕ) (o : Option ℕ) → e.taken x ≡ o → asked c g o (e.met x) x ≡ plain_asked_by c.before g (node_of o) x
    unfolding node_of
    counted_by g x None some = refl
    counted_by g x (Some zero) some = refl
    counted_by g x (Some (suc k)) some = ap (λ m. sum_below m (λ i. names g (entry_of c.before (level_type (suc k)) x i))) (met_full x k some)

    within_by : (g : ℕ) (s : Share) → g < c.machine.frames → c.before.shares g ≡ Some s → s.count + (one_at c.top g + sum_below c.machine.frames (λ x. plain_asked_by c.before g (node_of (e.taken x)) x)) ≤ c.machine.limit
    within_by g s real was =
        let now = ap share_count (does.shares g ∙ ap (more (total c e g)) was) in
        let room = does.room g real in
        let same = sum_below-same c.machine.frames (λ x. asked c g (e.taken x) (e.met x) x) (λ x. plain_asked_by c.before g (node_of (e.taken x)) x) (λ x b. counted_by g x (e.taken x) refl) in
        omega arith

    pub is_lawful : IsLawful c
    is_lawful =
        record {
          allowed = λ g i u node inside asks. entry_met g i u Bad (node_table g u node) inside asks;
          plain = λ g i h u node inside asks. entry_met g i u (Read h) (node_table g u node) inside asks;
          typed = λ g u tree. (reached g u tree).0;
          one_type = λ g u w a b. one_by g u w (reached g u a).1 (reached g w b).1;
          right_type = λ g u a. let r = reached g u a in right_by g u r.0 r.1;
          nodes = λ x. node_of (e.taken x);
          each = λ g u is. node_by g u (e.taken g) refl is;
          all = λ g u node. is_node_of g u (node_table g u node);
          within = within_by;
        }

  -- ---- both ways
  fine_by : Goes c (alone c.machine c.owner l c.top c.before) Ended → IsLawful c → (alone c.machine c.owner l c.top c.before).refusal ≡ None
  fine_by (inl done) law = ap (λ (o : PlainOutcome). o.refusal) done.is
  fine_by (inr failed) law = absurd (failed.why law)

  lawful_by : Goes c (alone c.machine c.owner l c.top c.before) Ended → (alone c.machine c.owner l c.top c.before).refusal ≡ None → IsLawful c
  lawful_by (inl done) is = is_lawful done.left done.doing done.holds
  lawful_by (inr failed) is = absurd (let n = sym (ap (λ (o : PlainOutcome). o.refusal) failed.is) ∙ is in cc)

  pub fine_where_lawful : (IsLawful c → (alone c.machine c.owner l c.top c.before).refusal ≡ None) × ((alone c.machine c.owner l c.top c.before).refusal ≡ None → IsLawful c)
  fine_where_lawful = (fine_by alone_goes, lawful_by alone_goes)

pub fine_by_rest : (n : Machine) (owner l f : ℕ) (p : Plain) → l ≤ 4 → IsRested n p → (PlainLawful n owner p f (level_type l) → (alone n owner l f p).refusal ≡ None) × ((alone n owner l f p).refusal ≡ None → PlainLawful n owner p f (level_type l))
fine_by_rest n owner l f p low rested =
    fine_where_lawful (record { machine = n; owner = owner; top = f; kind = level_type l; before = p }) rested l low refl
