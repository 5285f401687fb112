use Rattle.std.proofs.Common.{◌≡◌, ◌++◌, ◌∙◌, subst, arith}
use Rattle.std.specs.Int.{w32, to_be_bytes}
use Rattle.tks_spelling.specs.Spelling.{list}
use Rattle.tks_spelling.proofs.Puts.{put_behind, anyway}
use Rattle.tks_codec_windows.specs.Listbox.{item}
use Rattle.tks_codec_windows.proofs.OfWidgets.{small_active, listbox_legal}
use Rattle.tks_codec_windows.proofs.listing.put_listbox.Goals as goal

pub overflow_cast-active : goal.overflow_cast-active
overflow_cast-active c = omega (arith, c.active.ensures.value, small_active c.args.listbox.now.items c.args.listbox.now.active c.items-items.ensures.short c.active.ensures.one)

pub returns-clause-puts : goal.returns-clause-puts
returns-clause-puts c =
    let l = c.args.listbox.now in
    let new = c.put_items.new.out.items in
    let first = subst (λ items. new ≡ c.args.out.now.items ++ (list item).write items) (c.iter.ensures ∙ c.items-items.ensures.value) c.in_ok-put_items.ensures.puts in
    put_behind c.put_u32.result c.args.out.now.items ((list item).write l.items) new (to_be_bytes w32 l.active) c.put_u32.new.out.items first (rw (← c.active.ensures.value) c.put_u32.ensures)

pub returns-clause-legal : goal.returns-clause-legal
returns-clause-legal c =
    anyway c.put_u32.result (listbox_legal c.args.listbox.now c.active.ensures.one (subst (list item).Legal (c.iter.ensures ∙ c.items-items.ensures.value) c.in_ok-put_items.ensures.legal))
