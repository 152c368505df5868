-- What measuring and writing keep.
use Rattle.std.proofs.Common.{◌≡◌, ℕ, ◌+◌, ◌≤◌, List, [], ◌++◌, length, take, drop, sym, refl, ap, ◌∙◌, add_assoc, arith}
use Rattle.std.proofs.lemmas.List.{take-append-drop, take_at, length-take-le, append_assoc, length-append, length-drop, drop-drop, drop_at}
use Rattle.texts.specs.Writing.{put_at, Wrote}
use Rattle.texts.specs.Outs.{OutLaws, is_counted, Counted, has_room, CursorWrote}

-- a write right after another
put_put : (xs ys u v : List ℕ) (a b : ℕ) → a ≤ length xs → ys ≡ put_at xs a u → b ≡ a + length u → put_at ys b v ≡ put_at xs a (u ++ v)
put_put xs ys u v a b h e f =
    let p : ys ≡ (take a xs ++ u) ++ drop (length u) (drop a xs) = e ∙ sym (append_assoc (take a xs) u (drop (length u) (drop a xs))) in
    let q : length (take a xs ++ u) ≡ b = omega (arith, length-append (take a xs) u, length-take-le a xs h) in
    let t : take b ys ≡ take a xs ++ u = ap (take b) p ∙ take_at (take a xs ++ u) (drop (length u) (drop a xs)) b q in
    let d : drop b ys ≡ drop (length u) (drop a xs) = ap (drop b) p ∙ drop_at (take a xs ++ u) (drop (length u) (drop a xs)) b q in
    simp (t, d, append_assoc, drop-drop, length-append, add_assoc)

pub wrote_then : {xs ys zs : List ℕ} {at a b : ℕ} {u v : List ℕ} → at ≤ length xs → Wrote xs at u ys a → Wrote ys a v zs b → Wrote xs at (u ++ v) zs b
wrote_then {xs} {ys} {zs} {at} {a} {b} {u} {v} h p q = record {
  after = q.after ∙ put_put xs ys u v at a h p.after p.value;
  value = simp length-append (omega arith);
}

pub wrote_none : (xs : List ℕ) (at : ℕ) → Wrote xs at [] xs at
wrote_none xs at = record { after = sym (take-append-drop at xs); value = omega arith }

pub wrote_parts : {xs w ys : List ℕ} {at to : ℕ} → Wrote xs at w ys to → ys ≡ (take at xs ++ w) ++ drop (length w) (drop at xs)
wrote_parts {xs} {w} {ys} {at} {to} p = p.after ∙ sym (append_assoc (take at xs) w (drop (length w) (drop at xs)))

-- the buffer keeps its length
pub wrote_keeps : {xs w ys : List ℕ} {at to : ℕ} → at ≤ length xs → Wrote xs at w ys to → at + length w ≤ length xs → length ys ≡ length xs
wrote_keeps {xs} {w} {ys} {at} {to} h p l =
    omega (
      arith,
      ap length (wrote_parts p),
      length-append (take at xs ++ w) (drop (length w) (drop at xs)),
      length-append (take at xs) w,
      length-take-le at xs h,
      length-drop (length w) (drop at xs),
      length-drop at xs,
    )

pub measure_laws : OutLaws is_counted Counted
measure_laws = record {
  none = λ w f. omega (arith, f);
  joined = λ a b c u v p q. omega (arith, length-append u v, p, q);
  shorter = λ w u v l f. f;
  rest = λ a b u v t l f p. omega (arith, p);
}

pub cursor_laws : OutLaws has_room CursorWrote
cursor_laws = record {
  none = λ w f. record { within = omega (arith, f); left = wrote_none w.out.now w.at; lender = refl };
  joined = λ a b c u v p q. record { within = p.within; left = wrote_then p.within p.left q.left; lender = q.lender ∙ p.lender };
  shorter = λ w u v l f. omega (arith, f);
  rest = λ a b u v t l f p. omega (arith, f, p.left.value, wrote_keeps p.within p.left (omega (arith, f)));
}
