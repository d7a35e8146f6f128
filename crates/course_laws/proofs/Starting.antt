-- An acquisition begins with words at rest: the frame's reference and type are taken.
use Rattle.std.proofs.Common.{◌≡◌, ℕ, ◌<◌, Bool, true, false, [], Option, Some, None, refl, inl, inr, arith}
use Rattle.xp_words.specs.Machine.{Machine}
use Rattle.xp_words.specs.RefWords.{ref_read}
use Rattle.xp_words.specs.declared.refs.RefWord.{RefWord}
use Rattle.xp_words.specs.declared.refs.RefWord.TheVariants.{Dying, Free, Owned}
use Rattle.xp_words.specs.declared.place.Place.TheVariants.{Refs}
use Rattle.xp_board.specs.Readings.{count_in, is_dead, kind_at, ref_count}
use Rattle.step_maker.specs.Plain.{Words}
use Rattle.table_law.specs.Lawful.{IsAtRest, share_count}
use Rattle.table_law.specs.Plain.{Describes, plain_of, share_in, share_of}
use Rattle.course_laws.specs.Courses.{IsOrderly}
use Rattle.course_laws.proofs.Frames.{AllFrames, IsAside, count_at}

-- ---- words at rest
-- the plain value of any words describes them
pub described : (n : Machine) (m : Words) → Describes n m (plain_of m)
described n m = record { shares = λ g inside. refl; kinds = λ g inside. refl; cells = λ g i inside few. refl }

count_by : (r : Option RefWord) → count_in r ≡ share_count (share_in r)
count_by (Some (Owned o allocated count)) = refl
count_by (Some (Free stamp)) = refl
count_by (Some (Dying o)) = refl
count_by None = refl

pub count_is : (w : ℕ) → ref_count w ≡ share_count (share_of w)
unfolding ref_count
count_is w = count_by (ref_read w)

module _ (n : Machine) (m : Words) (calm : IsAtRest n m) (orderly : IsOrderly n m) where
  aside_by : (b : Bool) (g : ℕ) → g < n.frames → is_dead (kind_at m g) ≡ b → IsAside (kind_at m g) (count_at m g)
  aside_by true g inside dead = record { spelled = orderly.spelled g inside; stands = inl dead }
  aside_by false g inside off =
      let live = calm.formed g inside off in
      let most = orderly.counted g inside live in
      let same = count_is (m (Refs g)) in
      record { spelled = orderly.spelled g inside; stands = inr (record { live = live; some = calm.counted g inside live; within = omega arith }) }

  pub rest_frames : AllFrames n m []
  rest_frames g inside = inl (aside_by (is_dead (kind_at m g)) g inside refl)
