-- A release's two passes over the ring, comment by comment. Assumes nothing.
use Rattle.text.proofs.Base.{◌≡◌, refl, sym, ap, ◌∙◌, List, [], ◌∷◌, ◌++◌, Bool, true, false, cond, ℕ, ◌+◌, ◌<◌, ◌≤◌, arith}
use Rattle.text.proofs.Base.{length, ltb, eqb, lt-ltb, le-ltb, ltb-true}
use native.Mathlib.Nat.{add-zero}
use lib.ListN.{length-append}
use lib.Seq.{sets, length-sets}
use Rattle.meaning.specs.{State.Comment}
use Rattle.std.specs.Prelude.{None, Some}
use Rattle.queue.specs.{declared.release.Way.Way, declared.release.Fit.Fit}
use Rattle.lent.specs.{declared.room.Gap.Gap, View.gap_bytes}
use Rattle.queue.specs.{Passes.stop_of, Passes.front_of}
use Rattle.queue.specs.{Passes.gap_of, Passes.letters_of, Passes.bytes_on, Passes.bytes_from, Passes.going, Passes.reach}
use Rattle.queue.specs.{Passes.Measured}
use Rattle.lent.proofs.WriteLaws.{laid_length, sets_append}

two_writes : (b b' x y t : List ℕ) (len len' : ℕ) → x ≡ y → len + length x ≡ len' → b' ≡ sets b len y → sets b' len' t ≡ sets b len (x ++ t)
two_writes b b' x y t len len' e p h = cc (sets_append b x t len)

pub going_stop : (w : Way) (c : Comment) (cs : List Comment) → stop_of w c ≡ true → going w (c ∷ cs) ≡ []
unfolding going
going_stop w c cs h = rw h

going_more : (w : Way) (c : Comment) (cs : List Comment) → stop_of w c ≡ false → going w (c ∷ cs) ≡ c ∷ going w cs
unfolding going
going_more w c cs h = rw h

going_none : (w : Way) → going w [] ≡ []
unfolding going
going_none w = refl

abbrev pub fit : ℕ → ℕ → Fit
fit n len = record { count = n; len = len }

-- what is found, by the test of room
pub fit_goes : (t : Bool) (a b n len : ℕ) → cond t None (Some (fit a b)) ≡ Some (fit n len) → (t ≡ false) × (n ≡ a) × (len ≡ b)
fit_goes true a b n len e = let z : ◌≡◌ {A = ℕ} 0 1 = cc in absurd (omega arith)
fit_goes false a b n len e =
    let y : fit a b ≡ fit n len = cc in
    (refl, sym (ap (λ (f : Fit). f.count) y), sym (ap (λ (f : Fit). f.len) y))

pub fit_past : (t : Bool) (a b : ℕ) → cond t None (Some (fit a b)) ≡ None → t ≡ true
fit_past true a b e = refl
fit_past false a b e = let z : ◌≡◌ {A = ℕ} 0 1 = cc in absurd (omega arith)

module _ (src : List ℕ) (w : Way) (ind : ℕ) where
  -- the gap and the text that the code found for a comment, at the output's length
  pub record Put (front : Bool) (len : ℕ) (c : Comment) (g : Gap) (t : List ℕ) : Type 0 where
    pub gap : gap_bytes g ≡ gap_of w ind front (eqb len 0) c.before
    pub text : t ≡ letters_of src w c

  pub put_of : {front : Bool} {len : ℕ} {c : Comment} (g : Gap) {t : List ℕ} → gap_bytes g ≡ gap_of w ind front (eqb len 0) c.before → t ≡ letters_of src w c → Put front len c g t
  put_of g eg et = record { gap = eg; text = et }

  module _ {front : Bool} {len : ℕ} {c : Comment} {g : Gap} {t : List ℕ} (p : Put front len c g t) where
    put_bytes : bytes_on src w ind front len c ≡ gap_bytes g ++ t
    put_bytes = rw (p.gap, p.text)

    put_length : length (bytes_on src w ind front len c) ≡ g.lines + g.spaces + length t
    put_length = ap length put_bytes ∙ laid_length g t

    reach_more : (cs : List Comment) → reach src w ind front len (c ∷ cs) ≡ reach src w ind true (len + (g.lines + g.spaces) + length t) cs
    unfolding bytes_from
    reach_more cs =
        let e : length (bytes_on src w ind front len c) ≡ g.lines + g.spaces + length t = put_length in
        let a : len + length (bytes_on src w ind front len c) ≡ len + (g.lines + g.spaces) + length t = omega arith in
        rw (length-append, a) (omega arith)

  reach_none : (front : Bool) (len : ℕ) → reach src w ind front len [] ≡ len
  unfolding bytes_from
  reach_none front len = add-zero len

  -- ---- the first pass: cs of cs₀ are left

  pub record Measuring (cap len₀ : ℕ) (cs₀ : List Comment) (len : ℕ) (front : Bool) (i : ℕ) (cs : List Comment) : Type 0 where
    pub counted : i + length (going w cs) ≡ length (going w cs₀)
    pub reached : reach src w ind front len (going w cs) ≡ reach src w ind (front_of w) len₀ (going w cs₀)
    pub within : len ≤ cap

  module _ {cap len₀ : ℕ} {cs₀ : List Comment} where
    pub measure_start : {cs : List Comment} {front : Bool} → front ≡ front_of w → cs ≡ cs₀ → len₀ ≤ cap → Measuring cap len₀ cs₀ len₀ front 0 cs
    measure_start f e h = record { counted = rw e (omega arith); reached = rw (f, e); within = h }

    pub measure_turn : {len : ℕ} {front : Bool} {i : ℕ} {cs cs' : List Comment} {c : Comment} {g : Gap} {t : List ℕ} → cs ≡ c ∷ cs' → stop_of w c ≡ false → Put front len c g t → len + (g.lines + g.spaces) + length t ≤ cap
        → Measuring cap len₀ cs₀ len front i cs → Measuring cap len₀ cs₀ (len + (g.lines + g.spaces) + length t) true (i + 1) cs'
    measure_turn {len} {front} {i} {cs} {cs'} {c} e h p l a =
        let g : going w cs ≡ c ∷ going w cs' = ap (going w) e ∙ going_more w c cs' h in
        record {
          counted = omega (arith, a.counted, ap length g);
          reached = sym (reach_more p (going w cs')) ∙ ap (reach src w ind front len) (sym g) ∙ a.reached;
          within = l;
        }

    done_with : {len : ℕ} {front : Bool} {i : ℕ} {cs : List Comment} → going w cs ≡ [] → Measuring cap len₀ cs₀ len front i cs → Measured src w ind len₀ cap cs₀ (Some (fit i len))
    done_with {len} {front} {i} {cs} g a =
        let z : reach src w ind (front_of w) len₀ (going w cs₀) ≡ len = sym (sym (reach_none front len) ∙ ap (reach src w ind front len) (sym g) ∙ a.reached) in
        let n : length (going w cs₀) ≡ i = omega (arith, a.counted, ap length g) in
        record { out = rw (z, n, le-ltb cap len a.within) }

    pub measure_stop : {len : ℕ} {front : Bool} {i : ℕ} {cs cs' : List Comment} {c : Comment} → cs ≡ c ∷ cs' → stop_of w c ≡ true → Measuring cap len₀ cs₀ len front i cs → Measured src w ind len₀ cap cs₀ (Some (fit i len))
    measure_stop {len} {front} {i} {cs} {cs'} {c} e h a = done_with (ap (going w) e ∙ going_stop w c cs' h) a

    pub measure_end : {len : ℕ} {front : Bool} {i n : ℕ} {cs : List Comment} → cs ≡ [] → n ≡ i → Measuring cap len₀ cs₀ len front i cs → Measured src w ind len₀ cap cs₀ (Some (fit n len))
    measure_end e k a = rw k (done_with (ap (going w) e ∙ going_none w) a)

    over_so : cap < reach src w ind (front_of w) len₀ (going w cs₀) → Measured src w ind len₀ cap cs₀ None
    over_so h = record { out = rw (lt-ltb cap (reach src w ind (front_of w) len₀ (going w cs₀)) h) }

    pub measure_over : {len : ℕ} {front : Bool} {i : ℕ} {cs cs' : List Comment} {c : Comment} {g : Gap} {t : List ℕ} → cs ≡ c ∷ cs' → stop_of w c ≡ false → Put front len c g t → ltb cap (len + (g.lines + g.spaces) + length t) ≡ true
        → Measuring cap len₀ cs₀ len front i cs → Measured src w ind len₀ cap cs₀ None
    measure_over {len} {front} {i} {cs} {cs'} {c} {g} {t} e h p l a =
        let y : going w cs ≡ c ∷ going w cs' = ap (going w) e ∙ going_more w c cs' h in
        let r : reach src w ind true (len + (g.lines + g.spaces) + length t) (going w cs') ≡ reach src w ind (front_of w) len₀ (going w cs₀) = sym (reach_more p (going w cs')) ∙ ap (reach src w ind front len) (sym y) ∙ a.reached in
        let k : cap < len + (g.lines + g.spaces) + length t = ltb-true cap _ l in
        over_so (omega arith)

    pub measure_full : cap < len₀ → Measured src w ind len₀ cap cs₀ None
    measure_full h = over_so (omega arith)

  -- ---- the second pass: cs of cs₀ are yet to be written

  pub record Writing (len₀ : ℕ) (cs₀ : List Comment) (b₀ : List ℕ) (len : ℕ) (front : Bool) (cs : List Comment) (b : List ℕ) : Type 0 where
    pub rest : sets b len (bytes_from src w ind front len cs) ≡ sets b₀ len₀ (bytes_from src w ind (front_of w) len₀ cs₀)
    pub room : reach src w ind front len cs ≤ length b
    pub long : length b ≡ length b₀

  module _ {len₀ : ℕ} {cs₀ : List Comment} {b₀ : List ℕ} where
    pub write_start : {cs : List Comment} {front : Bool} → front ≡ front_of w → cs ≡ cs₀ → reach src w ind (front_of w) len₀ cs₀ ≤ length b₀ → Writing len₀ cs₀ b₀ len₀ front cs b₀
    write_start f e h = record { rest = rw (f, e); room = rw (f, e) h; long = refl }

    module _ {len : ℕ} {front : Bool} {cs cs' : List Comment} {b : List ℕ} {c : Comment} {g : Gap} {t : List ℕ} (e : cs ≡ c ∷ cs') (p : Put front len c g t) (a : Writing len₀ cs₀ b₀ len front cs b) where
      room_next : reach src w ind true (len + (g.lines + g.spaces) + length t) cs' ≤ length b
      room_next = rw (← reach_more p cs', ← e) a.room

      -- there is room for the next
      pub write_room : len + (g.lines + g.spaces) + length t ≤ length b
      write_room = omega (arith, room_next)

      bytes_more : bytes_from src w ind front len (c ∷ cs') ≡ bytes_on src w ind front len c ++ bytes_from src w ind true (len + length (bytes_on src w ind front len c)) cs'
      unfolding bytes_from
      bytes_more = refl

      pub write_turn : {b' : List ℕ} → b' ≡ sets b len (gap_bytes g ++ t) → Writing len₀ cs₀ b₀ (len + (g.lines + g.spaces) + length t) true cs' b'
      write_turn {b'} h =
          let y : bytes_on src w ind front len c ≡ gap_bytes g ++ t = put_bytes p in
          let n : length (bytes_on src w ind front len c) ≡ g.lines + g.spaces + length t = put_length p in
          let z : len + length (bytes_on src w ind front len c) ≡ len + (g.lines + g.spaces) + length t = omega arith in
          let l : length b' ≡ length b = ap length h ∙ length-sets b len (gap_bytes g ++ t) in
          let r : reach src w ind true (len + (g.lines + g.spaces) + length t) cs' ≤ length b = room_next in
          let v : bytes_from src w ind front len cs ≡ bytes_on src w ind front len c ++ bytes_from src w ind true (len + (g.lines + g.spaces) + length t) cs' = ap (bytes_from src w ind front len) e ∙ bytes_more ∙ ap (λ (k : ℕ). bytes_on src w ind front len c ++ bytes_from src w ind true k cs') z in
          record {
            rest = two_writes b b' (bytes_on src w ind front len c) (gap_bytes g ++ t) (bytes_from src w ind true (len + (g.lines + g.spaces) + length t) cs') len (len + (g.lines + g.spaces) + length t) y z h ∙ ap (sets b len) (sym v) ∙ a.rest;
            room = omega arith;
            long = l ∙ a.long;
          }

    pub write_end : {len : ℕ} {front : Bool} {cs : List Comment} {b : List ℕ} → cs ≡ [] → Writing len₀ cs₀ b₀ len front cs b → b ≡ sets b₀ len₀ (bytes_from src w ind (front_of w) len₀ cs₀)
    unfolding bytes_from
    write_end e a = rw e at a.rest
