use Rattle.std.proofs.Common.{◌≡◌, ◌∙◌, ◌-◌, ◌++◌, [], List, ℕ, length, refl, sym, ap, subst, arith, take, drop, get_or, ⊎_elim, Result, Ok}
use Rattle.std.proofs.lemmas.List.{get_or-take, length-take}
use Rattle.area_layout.specs.Layout.{HeaderAt, IsHeader, header_bytes}
use Rattle.area_layout.specs.declared.header.Header.{Header}
use Rattle.gated_log.proofs.front.front_of.Goals as goal

pub returns-in_default : goal.returns-in_default
returns-in_default c = λ area is. record {
  place = refl;
  not_fresh = λ fresh. ⊎_elim
      (λ short. omega (arith, short, c.if-front-le1.false, ap length is, length-take 17 area))
      (λ shut. shut (sym (get_or-take 17 area 0 0 (omega arith)) ∙ ap (λ (l : List ℕ). get_or l 0 0) (sym is) ∙ c.if-front-ne1.false))
      fresh;
  wrong = λ whole.
      let h : Header = record { version = 1; epoch = 1 } in
      let in_range : IsHeader h = record { version = omega arith; epoch = omega arith } in
      let same : take (length c.args.front.now - 1) (drop 1 c.args.front.now) ≡ header_bytes h ++ [] = ap (λ (l : List ℕ). take (length l - 1) (drop 1 l)) (is ∙ whole) in
      let back : c.read_header.result ≡ Ok h = c.header_read_back.ensures h [] c.read_header.result in_range (subst (λ (l : List ℕ). HeaderAt l c.read_header.result) same c.read_header.ensures) in
      let one : c.in-Ok.header ≡ h = same_ok c.read_header.result c.in-Ok.is back in
      c.if-header-eq1-2.false (ap (λ (x : Header). x.epoch) one);
}
  where
    same_ok : {E : Type 0} {x y : Header} (r : Result Header E) → r ≡ Ok x → r ≡ Ok y → x ≡ y
    same_ok r first second = cc
