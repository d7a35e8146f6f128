-- The type of a frame to which a reference was taken: counted, or the whole tree below it.
use Rattle.std.proofs.Common.{◌≡◌, ◌≢◌, ℕ, zero, suc, ◌<◌, ◌≤◌, ◌&&◌, Bool, true, false, Option, Some, None, IsTrue, refl, sym, ap, ◌∙◌, subst, inl, inr, arith}
use Rattle.std.proofs.lemmas.Bool.{cases_eq}
use Rattle.std.proofs.lemmas.Option.{same_Some}
use Rattle.xp_words.specs.declared.kind.KindWord.{KindWord}
use Rattle.xp_board.specs.Readings.{is_dead, is_type}
use Rattle.kind_words.specs.Kinds.{live_kind, work_kind}
use Rattle.partial_state.specs.Levels.{level_type}
use Rattle.table_law.specs.Plain.{Plain, at, with_kind}
use Rattle.table_law.specs.Alone.{PlainOutcome, fine, is_counted, then_or, take_kind, take_at, meet_last}
use Rattle.table_law.specs.Release.{let_go}
use Rattle.table_law.specs.Levels.{closed}
use Rattle.table_law.specs.Lawful.{PlainTree, IsPlainOwned}
use Rattle.table_law.proofs.Doing.{Case, Doing, Doings, IsSame, IsTaken, Above, AllMet, Grows, Failed, Goes, more}
use Rattle.table_law.proofs.Counting.{took_more, at_here, at_there, total_took}
use Rattle.table_law.proofs.Growing.{counted_as, grows_none}
use Rattle.table_law.proofs.TakingLive.{by_type}
use Rattle.table_law.proofs.Meeting.{Took, Take, Looped, Loop, loop}

module _ (c : Case) (l : ℕ) (low : l ≤ 4) (g : ℕ) (p : Plain) (d : Doing) (does : Doings c p d) (above : Above p d l) (owned : IsPlainOwned c.machine c.owner c.before g)
    (tree : PlainTree c.before c.top c.kind g (level_type l)) where
  -- ---- a dead one
  module _ (dead : is_dead (p.kinds g) ≡ true) where
    untaken_by : (o : Option ℕ) → d.taken g ≡ o → d.taken g ≡ None
    untaken_by None e = e
    untaken_by (Some k) e = absurd (let t = does.took g k e in let n = t.now in cc)

    untaken : d.taken g ≡ None
    untaken = untaken_by (d.taken g) refl

    was_dead : IsTrue (is_dead (c.before.kinds g))
    was_dead = sym (does.same g untaken).dead ∙ dead

    pub begun : Plain
    begun = with_kind g (work_kind (level_type l) false 0) p

    pub begun_doing : Doing
    begun_doing = took_more g l d

    -- with any kind that is not dead
    now_taken : (q : Plain) (e : Doing) (k : KindWord) → k.kind ≡ level_type l → is_dead k ≡ false → (k.validated ≡ true → 0 < k.number) → ((x j : ℕ) → x ≢ g → e.taken x ≡ Some j → IsTaken c q x j) → e.taken g ≡ Some l → (x j : ℕ) → e.taken x ≡ Some j → IsTaken c (with_kind g k q) x j
    now_taken q e k kind off counts others mine x j some =
        elim (cases_eq x g) [
          | inl at_g ↦
              let is = ap (at g k q.kinds) at_g ∙ at_here g k q.kinds in
              let same : j ≡ l = same_Some j l (sym some ∙ ap e.taken at_g ∙ mine) in
              record {
                dead = subst (λ y. IsTrue (is_dead (c.before.kinds y))) (sym at_g) was_dead;
                tree = subst (λ y. PlainTree c.before c.top c.kind y (level_type j)) (sym at_g) (subst (λ i. PlainTree c.before c.top c.kind g (level_type i)) (sym same) tree);
                low = omega arith;
                inside = subst (λ y. y < c.machine.frames) (sym at_g) owned.inside;
                kind = ap (λ (y : KindWord). y.kind) is ∙ kind ∙ sym (ap level_type same);
                now = ap is_dead is ∙ off;
                counted = counted_as k (at g k q.kinds x) is counts;
              }
          | inr away ↦
              let is = at_there g x k q.kinds away in
              let t = others x j away some in
              record {
                dead = t.dead;
                tree = t.tree;
                low = t.low;
                inside = t.inside;
                kind = ap (λ (y : KindWord). y.kind) is ∙ t.kind;
                now = ap is_dead is ∙ t.now;
                counted = counted_as (q.kinds x) (at g k q.kinds x) is t.counted;
              }
        ]

    now_same : (q : Plain) (e : Doing) (k : KindWord) → ((x : ℕ) → x ≢ g → e.taken x ≡ None → IsSame (c.before.kinds x) (q.kinds x)) → e.taken g ≡ Some l → (x : ℕ) → e.taken x ≡ None → IsSame (c.before.kinds x) (at g k q.kinds x)
    now_same q e k others mine x none =
        elim (cases_eq x g) [
          | inl at_g ↦ absurd (let n = sym (ap e.taken at_g) ∙ none in cc)
          | inr away ↦ subst (λ y. IsSame (c.before.kinds x) y) (sym (at_there g x k q.kinds away)) (others x away none)
        ]

    taken_there : (x : ℕ) → x ≢ g → begun_doing.taken x ≡ d.taken x
    unfolding begun_doing
    taken_there x away = at_there g x (Some l) d.taken away

    taken_here : begun_doing.taken g ≡ Some l
    unfolding begun_doing
    taken_here = at_here g (Some l) d.taken

    begun_most : (x : ℕ) → begun_doing.met x ≤ 512
    unfolding begun_doing
    begun_most x =
        elim (cases_eq x g) [
          | inl e ↦ let h = ap (at g 0 d.met) e ∙ at_here g 0 d.met in omega arith
          | inr off ↦ let h = at_there g x 0 d.met off in let m = does.most x in omega arith
        ]

    begun_does : Doings c begun begun_doing
    unfolding begun begun_doing taken_here taken_there begun_most
    begun_does =
        record {
          cells = does.cells;
          shares = λ h. does.shares h ∙ ap (λ k. more k (c.before.shares h)) (sym (total_took c d g l h untaken));
          room = does.room;
          same = now_same p begun_doing (work_kind (level_type l) false 0) (λ x away none. does.same x (sym (taken_there x away) ∙ none)) taken_here;
          took = now_taken p begun_doing (work_kind (level_type l) false 0) refl refl (λ live. absurd (cc)) (λ x j away some. does.took x j (sym (taken_there x away) ∙ some)) taken_here;
          most = begun_most;
        }

    -- ---- and made live, once it is complete
    module _ (q : Plain) (e : Doing) (after : Doings c q e) (grows : Grows c begun begun_doing q e (λ y. y ≡ g)) (full : (k : ℕ) → l ≡ suc k → (e.met g ≡ 512) × AllMet c e k g) where
      finished : Plain
      finished = with_kind g (live_kind (level_type l) 1) q

      mine_still : e.taken g ≡ Some l
      mine_still = grows.keeps g l taken_here

      finished_does : Doings c finished e
      unfolding finished
      finished_does =
          record {
            cells = after.cells;
            shares = after.shares;
            room = after.room;
            same = now_same q e (live_kind (level_type l) 1) (λ x away none. after.same x none) mine_still;
            took = now_taken q e (live_kind (level_type l) 1) refl refl (λ live. omega arith) (λ x j away some. after.took x j some) mine_still;
            most = after.most;
          }

      not_mine : (x k : ℕ) → d.taken x ≡ Some k → x ≢ g
      not_mine x k some e = let n = sym some ∙ ap d.taken e ∙ untaken in absurd (cc)

      settled_still : (x k : ℕ) → e.taken x ≡ Some k → (at g (live_kind (level_type l) 1) q.kinds x).validated ≡ false → (d.taken x ≡ Some k) × ((p.kinds x).validated ≡ false)
      unfolding begun
      settled_still x k some off =
          elim (cases_eq x g) [
            | inl at_g ↦ absurd (let v = ap (λ (y : KindWord). y.validated) (ap (at g (live_kind (level_type l) 1) q.kinds) at_g ∙ at_here g (live_kind (level_type l) 1) q.kinds) in cc)
            | inr away ↦
                let s = grows.settled x k some (sym (ap (λ (y : KindWord). y.validated) (at_there g x (live_kind (level_type l) 1) q.kinds away)) ∙ off) in
                (sym (taken_there x away) ∙ s.0, sym (ap (λ (y : KindWord). y.validated) (at_there g x (work_kind (level_type l) false 0) p.kinds away)) ∙ s.1)
          ]

      closed_now : (x k : ℕ) → d.taken x ≡ None → e.taken x ≡ Some (suc k) → (e.met x ≡ 512) × AllMet c e k x
      closed_now x k none some =
          elim (cases_eq x g) [
            | inl at_g ↦
                subst (λ y. (e.met y ≡ 512) × AllMet c e k y) (sym at_g) (full k (sym (same_Some (suc k) l (sym some ∙ ap e.taken at_g ∙ mine_still))))
            | inr away ↦ grows.closed x k (taken_there x away ∙ none) some
          ]

      met_there : (x : ℕ) → x ≢ g → begun_doing.met x ≡ d.met x
      unfolding begun_doing
      met_there x away = at_there g x 0 d.met away

      took_all : Took c p d g l finished e
      unfolding finished
      took_all =
          record {
            doings = finished_does;
            grows = record {
              keeps = λ x k some. grows.keeps x k (taken_there x (not_mine x k some) ∙ some);
              still = λ x k some off. grows.still x k (taken_there x (not_mine x k some) ∙ some) (not_mine x k some) ∙ met_there x (not_mine x k some);
              settled = settled_still;
              closed = closed_now;
            };
            has = inl (l, mine_still, refl);
          }

      pub done_all : (fill : Plain → PlainOutcome) → fill begun ≡ fine q → Goes c (take_kind fill g (level_type l) p (p.kinds g)) (Took c p d g l)
      unfolding finished begun
      done_all fill filled =
          inl
          (record {
            left = finished;
            doing = e;
            is = rw dead (ap (λ o. then_or o (closed g (level_type l)) (λ r. fine (with_kind g (live_kind (level_type l) 1) r))) filled);
            holds = took_all;
          })

    pub failed_all : (fill : Plain → PlainOutcome) → Failed c (fill begun) → Goes c (take_kind fill g (level_type l) p (p.kinds g)) (Took c p d g l)
    unfolding begun
    failed_all fill failed =
        inr (record { cause = failed.cause; left = closed g (level_type l) failed.left; is = rw dead (ap (λ o. then_or o (closed g (level_type l)) (λ r. fine (with_kind g (live_kind (level_type l) 1) r))) failed.is); why = failed.why })

  -- how the tables of the level below are filled
  abbrev pub Fills : (Plain → PlainOutcome) → Type 0
  Fills fill = (dead : is_dead (p.kinds g) ≡ true) → Goes c (fill (begun dead)) (λ q e. Doings c q e × Grows c (begun dead) (begun_doing dead) q e (λ y. y ≡ g) × ((k : ℕ) → l ≡ suc k → (e.met g ≡ 512) × AllMet c e k g))

  by_filled : (fill : Plain → PlainOutcome) (dead : is_dead (p.kinds g) ≡ true) → Goes c (fill (begun dead)) (λ q e. Doings c q e × Grows c (begun dead) (begun_doing dead) q e (λ y. y ≡ g) × ((k : ℕ) → l ≡ suc k → (e.met g ≡ 512) × AllMet c e k g)) →
      Goes c (take_kind fill g (level_type l) p (p.kinds g)) (Took c p d g l)
  by_filled fill dead (inl done) = done_all dead done.left done.doing done.holds.0 done.holds.1 done.holds.2 fill done.is
  by_filled fill dead (inr failed) = failed_all dead fill failed

  by_form : (fill : Plain → PlainOutcome) → Fills fill → (b : Bool) → is_dead (p.kinds g) ≡ b → Goes c (take_kind fill g (level_type l) p (p.kinds g)) (Took c p d g l)
  by_form fill fills true dead = by_filled fill dead (fills dead)
  by_form fill fills false live = by_type c l low g p d does above tree live fill (is_counted (p.kinds g) && is_type (p.kinds g).kind (level_type l)) refl

  pub taken_goes : (fill : Plain → PlainOutcome) → Fills fill → Goes c (take_kind fill g (level_type l) p (p.kinds g)) (Took c p d g l)
  taken_goes fill fills = by_form fill fills (is_dead (p.kinds g)) refl

  -- level 0 has no entries
  pub fills_none : l ≡ 0 → Fills fine
  fills_none is dead =
      inl
      (record {
        left = begun dead;
        doing = begun_doing dead;
        is = refl;
        holds = (begun_does dead, grows_none c (begun dead) (begun_doing dead) (λ y. y ≡ g), λ k e. absurd (omega arith));
      })

  -- a table's entries are met one after the other
  module _ (k : ℕ) (is : l ≡ suc k) (dead : is_dead (p.kinds g) ≡ true) where
    above_begun : Above (begun dead) (begun_doing dead) k
    unfolding begun
    above_begun x j some off =
        elim (cases_eq x g) [
          | inl e ↦ let same : j ≡ l = same_Some j l (sym some ∙ ap (begun_doing dead).taken e ∙ taken_here dead) in omega arith
          | inr away ↦
              let up = above x j (sym (taken_there dead x away) ∙ some) (sym (ap (λ (y : KindWord). y.validated) (at_there g x (work_kind (level_type l) false 0) p.kinds away)) ∙ off) in
              omega arith
        ]

    none_met : (begun_doing dead).met g ≡ 0
    unfolding begun_doing
    none_met = at_here g 0 d.met

    table_taken : (begun_doing dead).taken g ≡ Some (suc k)
    table_taken = taken_here dead ∙ ap Some is

    complete : (q : Plain) (e : Doing) → Looped c (begun dead) (begun_doing dead) g k q e → (j : ℕ) → l ≡ suc j → (e.met g ≡ 512) × AllMet c e j g
    complete q e looped j at_j =
        let same : k ≡ j = omega arith in
        let n = none_met in
        subst (λ i. (e.met g ≡ 512) × AllMet c e i g) same (looped.full, λ i b. looped.met i (omega arith) b)

  pub fills_table : (k : ℕ) → l ≡ suc k → Take c k → Fills (meet_last c.machine c.owner (take_at k c.machine c.owner) (let_go k) (level_type (suc k)) g 512)
  unfolding Loop
  fills_table k is take dead =
      elim (loop c k (omega arith) take g 512 (begun dead) (begun_doing dead) (begun_does dead) (above_begun k is dead) (table_taken k is dead) (let n = none_met k is dead in omega arith)) [
        | inl done ↦
            inl
            (record {
              left = done.left;
              doing = done.doing;
              is = done.is;
              holds = (done.holds.doings, done.holds.grows, complete k is dead done.left done.doing done.holds);
            })
        | inr failed ↦ inr failed
      ]

-- ---- each level
pub take_goes : (c : Case) (l : ℕ) → l ≤ 4 → Take c l
unfolding take_at
take_goes c zero low g p d does above owned tree = taken_goes c zero low g p d does above owned tree fine (fills_none c zero low g p d does above owned tree refl)
take_goes c (suc l) low g p d does above owned tree =
    taken_goes c (suc l) low g p d does above owned tree (meet_last c.machine c.owner (take_at l c.machine c.owner) (let_go l) (level_type (suc l)) g 512)
    (fills_table c (suc l) low g p d does above owned tree l refl (take_goes c l (omega arith)))
