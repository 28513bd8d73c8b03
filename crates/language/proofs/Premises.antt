-- Facts of each record of a tree: a weaker fact, two facts together, and a fact of each head. Assumes nothing.
use Rattle.particle.specs.Tree.{Head, Items, none, item, Particle, single}
use Rattle.particle.proofs.Every.{EachHead}
use Rattle.language.specs.Premises.{Every, Throughout}

module _ {P Q : Head → Items → Type 0} (f : (h : Head) (k : Items) → P h k → Q h k) where
  pub every_map : (x : Items) → Every P x → Every Q x
  every_map none ps = tt
  every_map (item h k r) ((p, ps), qs) = ((f h k p, every_map k ps), every_map r qs)

  pub throughout_map : (x : Particle) → Throughout P x → Throughout Q x
  throughout_map x (p, ps) = (f x.head x.items p, every_map x.items ps)

module _ {P Q R : Head → Items → Type 0} (f : (h : Head) (k : Items) → P h k → Q h k → R h k) where
  pub every_both : (x : Items) → Every P x → Every Q x → Every R x
  every_both none ps qs = tt
  every_both (item h k r) ((p, ps), ps') ((q, qs), qs') = ((f h k p q, every_both k ps qs), every_both r ps' qs')

  pub throughout_both : (x : Particle) → Throughout P x → Throughout Q x → Throughout R x
  throughout_both x (p, ps) (q, qs) = (f x.head x.items p q, every_both x.items ps qs)

module _ (P : Head → Type 0) where
  every_head : (x : Items) → EachHead P x → Every (λ h k. P h) x
  unfolding EachHead
  every_head none e = tt
  every_head (item h k r) e = ((e.0, every_head k e.1), every_head r e.2)

  -- as particle's laws on bytes give it
  pub throughout_heads : (x : Particle) → EachHead P (single x) → Throughout (λ h k. P h) x
  unfolding EachHead
  throughout_heads x e = (e.0, every_head x.items e.1)

  each_head : (x : Items) → Every (λ h k. P h) x → EachHead P x
  unfolding EachHead
  each_head none ps = tt
  each_head (item h k r) ((p, ps), qs) = (p, each_head k ps, each_head r qs)

  -- and the other way round
  pub heads_each : (x : Particle) → Throughout (λ h k. P h) x → EachHead P (single x)
  unfolding EachHead
  heads_each x (p, ps) = (p, each_head x.items ps, tt)
