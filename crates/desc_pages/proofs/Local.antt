-- The LDT is set, or not: put together.
use Rattle.std.proofs.Common.{◌≡◌, ◌⊎◌, ℕ, ◌≤◌, if◌then◌else◌, Bool, true, false, [], Option, Some, None, Ok, Err, refl, sym, ap, ◌∙◌, subst, arith, inl, inr, append-nil}
use Rattle.std.proofs.lemmas.Bool.Decides.{nat_tests}
use Rattle.xp_words.specs.ContextWords.{ldt_write}
use Rattle.xp_words.specs.declared.context.LdtBase.{LdtBase}
use Rattle.xp_words.specs.declared.place.Place.TheVariants.{Vcpu}
use Rattle.xp_words.specs.declared.reply.Refusal.{Refusal}
use Rattle.xp_words.specs.declared.reply.Refusal.TheVariants as refusals
use Rattle.xp_words.specs.declared.reply.Stop.TheVariants.{Refused}
use Rattle.xp_board.specs.declared.step.Act.TheVariants.{Store}
use Rattle.xp_board.specs.declared.step.StepKind.TheVariants as kinds
use Rattle.xp_board.specs.Told.{PortValue}
use Rattle.step_maker.specs.Holds.{FlushedSame, Rests, Same, quiet}
use Rattle.step_maker.specs.Moves.{Moves}
use Rattle.step_maker.proofs.Coming.{came_self, came_trans, moves_came}
use Rattle.step_maker.specs.Answers.{Serves, Stops}
use Rattle.step_maker.specs.Asked.{Request}
use Rattle.step_maker.proofs.Piecing.{serves_nothing, serves_step}
use Rattle.step_maker.proofs.Resting.{still_rests}
use Rattle.desc_pages.specs.Ldt.{IsLdtStop, LdtSet, UnnamesAll, barred, is_bad_ldt, is_canonical, ldt_base, ldt_refusal, of_ldt, set, unnamed_from}
use Rattle.desc_pages.specs.Names.{own_domain}
use Rattle.desc_pages.proofs.ShortLists.{sets_short_ldt}

-- ---- by its numbers
few_by : (b : Bool) (o : Option Refusal) → (if b then Some refusals.BadRange else o) ≡ None → b ≡ false
few_by true o is = absurd cc
few_by false o is = refl

pub few_entries : (address entries : ℕ) → ldt_refusal address entries ≡ None → entries ≤ 8192
few_entries address entries is =
    let good = few_by (is_bad_ldt address entries) (if is_canonical address then None else Some refusals.NonCanonical) is in grind (arith, nat_tests)

-- which refusals there are
kind_by : (b c : Bool) (x : Refusal) → (if b then Some refusals.BadRange else if c then None else Some refusals.NonCanonical) ≡ Some x → (x ≡ refusals.BadRange) ⊎ (x ≡ refusals.NonCanonical)
kind_by true c x is = inl cc
kind_by false true x is = absurd cc
kind_by false false x is = inr cc

module _ (v : PortValue) (address entries : ℕ) (x : Refusal) (is : ldt_refusal address entries ≡ Some x) where
  stops_as : (y : Refusal) → (y ≡ refusals.BadRange) ⊎ (y ≡ refusals.NonCanonical) → ldt_refusal address entries ≡ Some y → IsLdtStop (Refused y) × Stops v v (of_ldt (own_domain v) address entries) (Refused y)
  unfolding Stops
  stops_as refusals.BadRange so on = (tt, inl on)
  stops_as refusals.NonCanonical so on = (tt, on)
  stops_as _ (inl so) on = absurd cc
  stops_as _ (inr so) on = absurd cc

  stops_so : IsLdtStop (Refused x) × Stops v v (of_ldt (own_domain v) address entries) (Refused x)
  stops_so = stops_as x (kind_by (is_bad_ldt address entries) (is_canonical address) x is) is

  some_same : {y z : Refusal} → Some y ≡ Some z → y ≡ z
  some_same same = cc

  pub barred_sets : Rests v → LdtSet v v address entries (Err (Refused x))
  barred_sets rests =
      record {
        came = came_self v;
        serves = serves_nothing v (of_ldt (own_domain v) address entries);
        stops = stops_so.1;
        kinds = stops_so.0;
        numbers = λ y on. ap (λ z. Err (Refused z)) (some_same (sym is ∙ on));
        hand = refl;
        rests = rests;
        course = barred x is;
        short = sets_short_ldt v v address entries (Err (Refused x)) (barred x is);
      }

-- ---- it is set
module _ (v u w : PortValue) (address entries old : ℕ) (right : ldt_refusal address entries ≡ None) (n : UnnamesAll v u 0) (base : LdtBase) (is : base ≡ ldt_base address entries)
    (moves : Moves u w (Vcpu u.post.vcpu 7) (Store (ldt_write base)) kinds.Context None old) (same : Same u w) where
  abbrev r : Request
  r = of_ldt (own_domain v) address entries

  abbrev word : ℕ
  word = ldt_write (ldt_base address entries)

  same_vcpu : u.post.vcpu ≡ v.post.vcpu
  same_vcpu = ap (λ (q : PortValue). q.post.vcpu) n.hand

  step : Moves u w (Vcpu v.post.vcpu 7) (Store word) kinds.Context None old
  step = subst (λ s. Moves u w (Vcpu s 7) (Store word) kinds.Context None old) same_vcpu (subst (λ b. Moves u w (Vcpu u.post.vcpu 7) (Store (ldt_write b)) kinds.Context None old) is moves)

  unnamed : Serves v u r (unnamed_from v.post.vcpu 0 16)
  unnamed = subst (λ ds. Serves v u r ds) (append-nil (unnamed_from v.post.vcpu 0 16)) (n.serves v r [] (serves_nothing v r) refl)

  hand_w : FlushedSame v w
  hand_w = ap quiet same ∙ ap quiet n.hand

  pub set_sets : Rests v → LdtSet v w address entries (Ok tt)
  set_sets rests =
      record {
        came = came_trans v u w n.came (moves_came u w (Vcpu v.post.vcpu 7) (Store word) kinds.Context None old step);
        serves = serves_step v u w r (unnamed_from v.post.vcpu 0 16) (Vcpu v.post.vcpu 7) (Store word) kinds.Context None old unnamed step (inl (refl, inl (λ five. let seven : ℕ = 7 in let is : seven ≡ 5 = five in omega (arith, is))));
        stops = tt;
        kinds = tt;
        numbers = λ x on. absurd (let off = right in cc);
        hand = hand_w;
        rests = still_rests v w rests hand_w;
        course = set u w old right n.course step;
        short = sets_short_ldt v w address entries (Ok tt) (set u w old right n.course step);
      }
