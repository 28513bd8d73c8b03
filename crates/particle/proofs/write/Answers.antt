-- `particle::write` meets its contract. Assumes nothing.
use mathlib.Core.Path.{refl, sym, ◌∙◌}
use mathlib.Core.List.{append_assoc}
use Prim.Native.Nat.{◌+◌, ◌-◌}
use native.Mathlib.Omega.{arith}
use lib.ListN.{length, take, drop}
use lib.Seq.{sets-eq}
use Rattle.std.proofs.lemmas.List.Edits.{paste_all}
use Rattle.std.proofs.lemmas.Slice.{put_mid-paste}
use Rattle.particle.proofs.write.Goals as goal

pub returns : goal.returns
returns c =
    let out = c.args.out.now in
    let at = c.args.at in
    let bytes = c.args.bytes.now in
    let n = length bytes in
    put_mid-paste at (at + n - at) out c.copy_from_slice.new.self bytes n c.copy_from_slice.ensures.after (omega arith) refl
    ∙ (paste_all out at bytes n refl ∙ (sym (append_assoc (take at out) bytes (drop (at + n) out)) ∙ sym (sets-eq bytes out at c.requires)))
