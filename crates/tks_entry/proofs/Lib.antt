mod Round
mod Cursor
