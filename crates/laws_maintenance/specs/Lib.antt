-- SPDX-License-Identifier: Apache-2.0
pub mod Calm
pub mod Drawn
pub mod Remade
pub mod Resize
pub mod Reclaim
pub mod Reclaimed
