-- The held keys are history. Assumes nothing.
use mathlib.Core.Path.{◌≡◌, refl, sym, ap, ◌∙◌}
use mathlib.Core.Bool.{Bool, true, false, cond, ◌&&◌}
use mathlib.Core.List.{List, [], ◌∷◌}
use Rattle.std.specs.Prelude.{Option, Some, None, Result, Ok, Err, is_ok}
use Prim.Native.Nat.{ℕ}
use native.Mathlib.Omega.{arith}
use borrow.Author.Tests.{eq-eqb, ne_eqb, eqb-true, eqb-false}
use lib.Dec.{eqb, ltb}
use lib.ListN.{length, length-set}
use Rattle.status.specs.Status.{done, key_held, key_not_held, buffer_too_small, table_damaged}
use Rattle.tuning.specs.Tuning.{Action}
use Rattle.tuning.specs.Desk.{cents}
use Rattle.frames.specs.Frames.{Frame, bad, letter, key, dump, move, letter_row, frame_of, inside}
use Rattle.frames.specs.declared.Way.{Way}
use Rattle.frames.specs.declared.Way.TheVariants.{Down, Up}
use Rattle.frames.proofs.Ranges.{frame_inside, move_ranges}
use Rattle.keys.specs.declared.HeldKeys.{HeldKeys}
use Rattle.keys.specs.Keys.{Place, place, word_count, is_held, with_key, without_key}
use Rattle.keys.proofs.Laws.{place_house, place_key, key_to, held_after}
use Rattle.answers.specs.Answer.{smallest_buffer}
use Rattle.tables.specs.Layout.{Tables}
use Rattle.protocol.specs.declared.Desk.{Desk}
use Rattle.protocol.specs.Triggers.{Sought, action_at, struck}
use Rattle.protocol.specs.Steps.{with_active, with_keys, by_action, call_on, desk_from, triggered, letter_step, pressed_in_turn, if_moved, key_moved, move_step}
use Rattle.protocol.specs.Answers.{letter_outcome, move_outcome, letter_row_outcome, key_outcome, frame_outcome, valid_desk, unchanged, answer_of}
use Rattle.protocol.specs.Streams.{Lent, desk_after}
use Rattle.protocol.specs.KeysHeld.{Moved, move_by, moves_of, is_down, held_by, held_along, KeysAreHistory}

-- ---- calls leave the held keys

by_action_holds : (house : ℕ) (d : Desk) (o : Option (Action cents)) → (by_action house d o).desk.keys ≡ d.keys
by_action_holds house d None = refl
by_action_holds house d (Some c) = refl

calls_leave_holds : (t : Tables) (house : ℕ) (d : Desk) (ks : List ℕ) → (desk_from t house d ks).keys ≡ d.keys
unfolding desk_from call_on
calls_leave_holds t house d [] = refl
calls_leave_holds t house d (k ∷ ks) = calls_leave_holds t house (call_on t house d k).desk ks ∙ by_action_holds house d (action_at t k)

step_leaves_holds : (t : Tables) (house : ℕ) (d : Desk) (x : Sought) (unfound : ℕ) → (triggered t house d x unfound).desk.keys ≡ d.keys
unfolding triggered
step_leaves_holds t house d x unfound = let z = struck t d.active x in calls_leave_holds t house (with_active z.active d) z.calls

presses_leave : (t : Tables) (house : ℕ) (d : Desk) (cs : List ℕ) → (pressed_in_turn t house d cs).desk.keys ≡ d.keys
unfolding pressed_in_turn
presses_leave t house d [] = refl
presses_leave t house d (c ∷ cs) = presses_leave t house (letter_step t house d c).desk cs ∙ step_leaves_holds t house d _ _

-- ---- a key frame

-- the held keys then, or as they were
abbrev kept : HeldKeys → Result HeldKeys ℕ → HeldKeys
kept h (Ok x) = x
kept h (Err n) = h

-- the held keys after what moved
abbrev after : HeldKeys → List Moved → HeldKeys
after h [] = h
after h (m ∷ ms) = after (kept h (key_moved m.way h m.house m.key)) ms

module _ (t : Tables) (d : Desk) where
  move_after : (way : Way) (house k : ℕ) → (move_step t way house d k).desk.keys ≡ after d.keys (move_by d (move way house k))
  unfolding move_step
  move_after way house k = go (key_moved way d.keys house k) refl
    where
      go : (r : Result HeldKeys ℕ) → key_moved way d.keys house k ≡ r
          → (if_moved t house d r).desk.keys ≡ after d.keys (cond (is_ok r) (record { way = way; house = house; key = k } ∷ []) [])
      go (Ok h) e = step_leaves_holds t house (with_keys h d) _ done ∙ sym (ap (kept d.keys) e)
      go (Err n) e = refl

  frame_after : (f : Frame) → (frame_outcome t d f).desk.keys ≡ after d.keys (move_by d f)
  unfolding frame_outcome letter_outcome move_outcome letter_row_outcome key_outcome
  frame_after bad = refl
  frame_after (letter house c) = step_leaves_holds t house d _ _
  frame_after (key house k) = refl
  frame_after (dump house) = refl
  frame_after (move way house k) = move_after way house k
  frame_after (letter_row house cs) = presses_leave t house d cs

  answer_after : (l : Lent) → (answer_of t d l.frame l.room).desk.keys ≡ after d.keys (moves_of t d l)
  unfolding answer_of
  answer_after l = by_room (ltb l.room smallest_buffer)
    where
      by_desk : (v : Bool) → (let o = cond v (frame_outcome t d (frame_of l.frame)) (unchanged d table_damaged) in o.desk.keys ≡ after d.keys (cond v (move_by d (frame_of l.frame)) []))
      by_desk true = frame_after (frame_of l.frame)
      by_desk false = refl

      by_room : (b : Bool)
          → (let o = cond b (unchanged d buffer_too_small) (cond (valid_desk t d) (frame_outcome t d (frame_of l.frame)) (unchanged d table_damaged)) in
          o.desk.keys ≡ after d.keys (cond b [] (cond (valid_desk t d) (move_by d (frame_of l.frame)) [])))
      by_room true = refl
      by_room false = by_desk (valid_desk t d)

-- ---- whether a key is held then

-- one of two houses and keys is the other where their places are one
same_place : {house k house' k' : ℕ} → Place house k → Place house' k' → eqb (place house' k') (place house k) ≡ eqb house house' && eqb k k'
same_place {house} {k} {house'} {k'} p q = go (eqb (place house' k') (place house k)) refl
  where
    apart : (b : Bool) → eqb house house' ≡ b → (place house' k' ≡ place house k → ⊥) → false ≡ b && eqb k k'
    apart false e h = refl
    apart true e h = sym (ne_eqb k k' (λ f. h (let g = eqb-true house house' e in omega (arith, f, g))))

    go : (b : Bool) → eqb (place house' k') (place house k) ≡ b → b ≡ eqb house house' && eqb k k'
    go true e =
        let s = eqb-true (place house' k') (place house k) e in
        rw (eq-eqb house house' (sym (place_house q p s)), eq-eqb k k' (sym (place_key q p s)))
    go false e = apart (eqb house house') refl (eqb-false (place house' k') (place house k) e)

-- the words stay four, and a taken key frame changes its key alone
module _ (h : HeldKeys) (n : length h.words ≡ word_count) (house k : ℕ) (p : Place house k) where
  moved_held : (way : Way) (x : HeldKeys) → key_moved way h house k ≡ Ok x → x ≡ key_to h house k (is_down way)
  moved_held Down x = go (is_held h house k)
    where
      go : (b : Bool) → ◌≡◌ {A = Result HeldKeys ℕ} (cond b (Err key_held) (Ok (with_key h house k))) (Ok x) → x ≡ with_key h house k
      go true e = cc
      go false e = cc
  moved_held Up x = go (is_held h house k)
    where
      go : (b : Bool) → ◌≡◌ {A = Result HeldKeys ℕ} (cond b (Ok (without_key h house k)) (Err key_not_held)) (Ok x) → x ≡ without_key h house k
      go true e = cc
      go false e = cc

  words_kept : (b : Bool) → length (key_to h house k b).words ≡ word_count
  words_kept true = length-set h.words _ _ ∙ n
  words_kept false = length-set h.words _ _ ∙ n

-- what a frame moved: at most one key, of the keyboard, that could move
module _ (h : HeldKeys) (n : length h.words ≡ word_count) where
  pub record Right (ms : List Moved) : Type 0 where
    pub words : length (after h ms).words ≡ word_count
    pub held : (house k : ℕ) → Place house k → is_held (after h ms) house k ≡ held_by ms house k (is_held h house k)

  none_moved : Right []
  unfolding held_by
  none_moved = record { words = n; held = λ house k p. refl }

  one_moved : (way : Way) (house k : ℕ) → Place house k → Right (cond (is_ok (key_moved way h house k)) (record { way = way; house = house; key = k } ∷ []) [])
  unfolding held_by
  one_moved way house k p = go (key_moved way h house k) refl
    where
      go : (r : Result HeldKeys ℕ) → key_moved way h house k ≡ r → Right (cond (is_ok r) (record { way = way; house = house; key = k } ∷ []) [])
      go (Err _) e = none_moved
      go (Ok x) e =
          let m = ap (kept h) e ∙ moved_held h n house k p way x e in
          record {
            words = ap (λ (x : HeldKeys). length x.words) m ∙ words_kept h n house k p (is_down way);
            held = λ house' k' q.
                ap (λ (x : HeldKeys). is_held x house' k') m
                ∙ held_after h house k house' k' (is_down way) n p
                ∙ ap (λ (b : Bool). cond b (is_down way) (is_held h house' k')) (same_place p q);
          }

module _ (t : Tables) (d : Desk) (n : length d.keys.words ≡ word_count) where
  frame_moved : (f : Frame) → inside f ≡ true → Right d.keys n (move_by d f)
  frame_moved bad i = none_moved d.keys n
  frame_moved (letter house c) i = none_moved d.keys n
  frame_moved (key house k) i = none_moved d.keys n
  frame_moved (dump house) i = none_moved d.keys n
  frame_moved (letter_row house cs) i = none_moved d.keys n
  frame_moved (move way house k) i =
      let r = move_ranges way house k i in
      one_moved d.keys n way house k (record { first = r.0; last = r.1; high = omega (arith, r.2) })

  lent_moved : (l : Lent) → Right d.keys n (moves_of t d l)
  lent_moved l = by_room (ltb l.room smallest_buffer) (valid_desk t d)
    where
      by_room : (b v : Bool) → Right d.keys n (cond b [] (cond v (move_by d (frame_of l.frame)) []))
      by_room true v = none_moved d.keys n
      by_room false true = frame_moved (frame_of l.frame) (frame_inside l.frame)
      by_room false false = none_moved d.keys n

pub held_along_holds : KeysAreHistory
unfolding KeysAreHistory desk_after held_along
held_along_holds t d n [] house k p = refl
held_along_holds t d n (l ∷ ls) house k p =
    let e = answer_after t d l in
    let r = lent_moved t d n l in
    held_along_holds t (answer_of t d l.frame l.room).desk (ap (λ (x : HeldKeys). length x.words) e ∙ r.words) ls house k p
    ∙ ap (held_along t (answer_of t d l.frame l.room).desk ls house k) (ap (λ (x : HeldKeys). is_held x house k) e ∙ r.held house k p)
