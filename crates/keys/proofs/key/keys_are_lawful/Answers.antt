use Rattle.std.proofs.Common.{sym, refl, ◌∙◌}
use Rattle.std.proofs.lemmas.Bool.Decides.{same_from_decides}
use Rattle.keys.proofs.key.keys_are_lawful.Goals as goal

pub returns : goal.returns
returns g c =
    let k = g.met.K.Key in
    record {
      sound = k.sound;
      complete = k.complete;
      reflexive = λ a. k.complete a a refl;
      symmetric = λ a b. same_from_decides _ _ (k.sound a b, k.complete a b) (λ e. sym (k.sound b a e), λ e. k.complete b a (sym e));
      transitive = λ a b c e f. k.complete a c (k.sound a b e ∙ k.sound b c f);
      congruent = λ a b c e. same_from_decides _ _ (k.sound a c, k.complete a c) (λ f. k.sound a b e ∙ k.sound b c f, λ f. k.complete b c (sym (k.sound a b e) ∙ f));
      below = k.below;
      shared = λ a b e. k.together a b (k.sound a b e);
    }
